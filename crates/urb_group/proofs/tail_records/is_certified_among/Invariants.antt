use Rattle.urb_group.proofs.Common.{cert, drop, has_name, ◌≡◌}
use Rattle.urb_group.proofs.tail_records.is_certified_among.Given as goal

-- the records that are left certify the name if all of them do
abbrev pub invariant-loop-entry : goal.invariant-loop-entry
invariant-loop-entry g l =
    has_name (cert (drop l.entry-index l.records)) l.name ≡ has_name (cert l.records) l.name
