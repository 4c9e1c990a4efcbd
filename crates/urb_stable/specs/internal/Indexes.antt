-- An index of an image: the last pair with each name, and the last one before each record.
use Rattle.std.specs.Prelude.{List, None, Option, Some, [], is_some, length, slice_get, take, true}
use Rattle.std.specs.Prelude.{ℕ, ◌<◌, ◌||◌, ◌∷◌, ◌≡◌}
use Rattle.std.specs.BTreeMap as tree
use Rattle.std.specs.Option.{option_or}
use Rattle.std.specs.declared.cmp.Ordering.{Ordering}
use Rattle.urb_names.specs.LabelsAndContents.{Content, Label}
use Rattle.urb_names.specs.Pairs.{has_pair, message_of}
use Rattle.urb_names.specs.contracts.name.NameOrd.TheImpl as name_order
use Rattle.urb_stable.specs.Entries.{Entry, name_of}
use Rattle.urb_stable.specs.Records.{pend}
use Rattle.urb_stable.specs.declared.index.Places.{Places}

-- the order of names
abbrev pub by_name : Label → Label → Ordering
by_name = (name_order.ghosts).cmp

-- Among the first n records of the image, the record at place k holds a pair with this name, and no
-- later one does.
pub record IsPlace (image : List Entry) (n : ℕ) (x : Label) (k : ℕ) : Type 0 where
  pub below : k < n
  pub entry : Entry
  pub here : slice_get image k ≡ Some entry
  pub named : name_of entry ≡ x
  pub pair : is_some (message_of (pend (entry ∷ [])) x) ≡ true
  pub pairs : (m : Content) → has_pair (pend (take n image)) x m
      ≡ (has_pair (pend (take k image)) x m || has_pair (pend (entry ∷ [])) x m)
  pub message : message_of (pend (take n image)) x ≡ option_or (message_of (pend (take k image)) x)
      (message_of (pend (entry ∷ [])) x)

-- the place of the last pair with this name among the first n records, or that there is no such
-- pair
abbrev pub IsLast : List Entry → ℕ → Label → Option ℕ → Type 0
IsLast image n x None = message_of (pend (take n image)) x ≡ None
IsLast image n x (Some k) = IsPlace image n x k

-- the index describes the first n records of this image
pub record IsIndexOf {A : Type 0} (image : List Entry) (n : ℕ) (index : Places A) : Type 0 where
  pub size : length index.before.items ≡ n
  pub last : (x : Label) → IsLast image n x (tree.get by_name index.last x)
  pub before : (k : ℕ) (r : Entry) (o : Option ℕ) → slice_get image k ≡ Some r
      → slice_get index.before.items k ≡ Some o → IsLast image k (name_of r) o
