-- Records that a store kept for a node before the node drafted them, as contracts see them.
use Rattle.std.specs.Prelude.{◌∷◌, ◌+◌, List, [], None, Ok, Option, Err, Result, Some, ℕ}
use Rattle.urb_stable.specs.Doubts.{Doubted}
use Rattle.urb_stable.specs.Entries.{Entry}
use Rattle.urb_stable.specs.PlacedRecords.{Placed}
use Rattle.urb_stable.specs.declared.stable.StoreFault.{StoreFault}

-- the records of a node that are stored at this position and the next ones, and not yet claimed
pub record Unclaimed : Type 0 where
  pub node : ℕ
  pub pos : ℕ
  pub entries : List Entry

-- the first of these records at its node and position, if there is one
abbrev pub first_in : ℕ → ℕ → List Entry → Option Placed
first_in node pos [] = None
first_in node pos (entry ∷ rest) = Some (record { node = node; pos = pos; entry = entry })

-- the next record of a batch to be claimed; None if all are claimed
abbrev pub next_of : Unclaimed → Option Placed
next_of batch = first_in batch.node batch.pos batch.entries

-- these records without the first one
abbrev pub rest_of : List Entry → List Entry
rest_of [] = []
rest_of (entry ∷ rest) = rest

-- a batch once its next record is claimed
abbrev pub once_claimed : Unclaimed → Unclaimed
once_claimed batch =
    record { node = batch.node; pos = batch.pos + 1; entries = rest_of batch.entries }

-- a batch means that the store kept the records; a doubt holds the fault
abbrev pub answer_for_all : Result Unclaimed Doubted → Result (Unit {0}) StoreFault
answer_for_all (Ok batch) = Ok tt
answer_for_all (Err doubt) = Err doubt.fault
