-- A node's image together with the node's number.
use Rattle.std.specs.Prelude.{List, Some, slice_get, suc, ℕ, ◌≡◌}
use Rattle.urb_stable.specs.Entries.{Entry}

-- the records of the node with this number
pub record NodeImage : Type 0 where
  pub number : ℕ
  pub records : List Entry

-- the images belong to the nodes 1, 2, .., in order
abbrev pub AreNumbered : List NodeImage → Type 0
AreNumbered images =
    (i : ℕ) (image : NodeImage) → slice_get images i ≡ Some image → image.number ≡ suc i
