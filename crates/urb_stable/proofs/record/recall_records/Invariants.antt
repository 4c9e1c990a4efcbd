use Rattle.urb_stable.proofs.Common.{All, IsEntry, take}
use Rattle.urb_stable.proofs.record.recall_records.Given as goal

-- all records so far are within their limits
abbrev pub invariant-loop-record : goal.invariant-loop-record
invariant-loop-record g l = All IsEntry (take l.record-index l.records)
