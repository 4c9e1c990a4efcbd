-- Marks as contracts see them: which nodes are marked for which names.
use Rattle.std.specs.Prelude.{ℕ, IsTrue, if◌then◌else◌, List, Option, None}
use Rattle.urb_names.specs.Acknowledgements.{ack_lt}
use Rattle.urb_names.specs.LabelsAndContents.{Label}
use Rattle.urb_names.specs.Names.{has_name, name_lt}
use Rattle.urb_names.specs.RisingLists.{is_rising, placed}
use Rattle.urb_window.specs.Entries.{names_of}
use Rattle.urb_window.specs.NodeMasks.{marks_in}
use Rattle.urb_window.specs.WindowSet.{WindowSet}
use Rattle.urb_window.specs.declared.marks.Marks.TheInside.{Inside}

-- The pairs of a name and a node marked for it. Also the names with space for a mark of each node,
-- and the name for which such space is reserved.
pub record MarkSet : Type 0 where
  pub marks : List (Label × ℕ)
  pub roomy : List Label
  pub reserved : Option Label

-- the set with space for the marks of one more name, which goes to its place; the reservation is
-- used up
abbrev pub with_room : MarkSet → Label → MarkSet
with_room s x =
    if has_name s.roomy x then s else record
    { marks = s.marks; roomy = placed name_lt s.roomy x; reserved = None }

-- the set with the node marked for the name; the pair goes to its place
abbrev pub with_mark : MarkSet → Label → ℕ → MarkSet
with_mark s x q = record (with_room s x) { marks = placed ack_lt s.marks (x, q) }

-- the pairs and the names are in strictly rising order
pub record IsMarkSet (s : MarkSet) : Type 0 where
  pub marks : IsTrue (is_rising ack_lt s.marks)
  pub roomy : IsTrue (is_rising name_lt s.roomy)

-- the marks that masks under names describe: each name with a mask has space
abbrev pub marks_of : WindowSet ℕ → MarkSet
marks_of masks = record {
  marks = marks_in masks.entries;
  roomy = names_of masks.entries;
  reserved =
      masks.reserved;
}

-- what contracts see of the fields
abbrev pub view_of : {A : Type 0} → Inside A → MarkSet
view_of a = marks_of a.masks
