use Rattle.std.proofs.Common.{take, ◌≡◌, ◌≤◌}
use Rattle.urb_foresight.proofs.CountedRecords.{own_count}
use Rattle.urb_foresight.proofs.foresight.count_own.Given as goal

-- those of the records so far are counted
abbrev pub invariant-loop-entry : goal.invariant-loop-entry
invariant-loop-entry g l =
    record {
      all : l.count ≡ own_count l.node (take l.entry-index l.records);
      few : l.count ≤ l.entry-index;
    }
