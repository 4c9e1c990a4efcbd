use Rattle.std.proofs.Common.{◌≡◌}
use Rattle.urb_group.proofs.shared_payloads.share_payloads.Given as goal

-- the records so far are as they were, and so are the others
abbrev pub invariant-loop-entry : goal.invariant-loop-entry
invariant-loop-entry g l = l.records ≡ l.fn.records
