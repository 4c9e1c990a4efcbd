-- The images of a group's nodes.
use Rattle.std.specs.Prelude.{List, [], slice_index_or, suc, zero, ℕ}
use Rattle.urb_stable.specs.Entries.{Entry}

-- a node's image, taken from the list of the images of nodes 1, 2, ..
abbrev pub image_of : List (List Entry) → ℕ → List Entry
image_of images zero = []
image_of images (suc before) = slice_index_or images before []
