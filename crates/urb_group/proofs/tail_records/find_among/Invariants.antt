use Rattle.urb_group.proofs.Common.{drop, message_of, pend, ◌≡◌}
use Rattle.urb_group.proofs.tail_records.find_among.Given as goal

-- the records that are left find what all of them do
abbrev pub invariant-loop-entry : goal.invariant-loop-entry
invariant-loop-entry g l =
    message_of (pend (drop l.entry-index l.records)) l.name ≡ message_of (pend l.records) l.name
