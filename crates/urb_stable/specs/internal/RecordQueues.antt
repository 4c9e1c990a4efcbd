-- A queue of records, as contracts see it.
use Rattle.std.specs.Prelude.{◌++◌, ◌∷◌, List, []}
use Rattle.urb_stable.specs.Entries.{Entry}

-- the records that were taken from a queue, and those that are left
pub record Queued : Type 0 where
  pub taken : List Entry
  pub left : List Entry

-- a queue of which these were taken and these are left, once one more is taken
abbrev pub moved_on : (taken left : List Entry) → Queued
moved_on taken [] = record { taken = taken; left = [] }
moved_on taken (first ∷ rest) = record { taken = taken ++ first ∷ []; left = rest }

-- the queue once one more record is taken
abbrev pub once_taken : Queued → Queued
once_taken queue = moved_on queue.taken queue.left
