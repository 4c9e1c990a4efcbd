use Rattle.urb_group.proofs.Common.{None, replicate, ◌≡◌}
use Rattle.urb_group.proofs.held_drafts.no_drafts.Given as goal

abbrev pub invariant-loop : goal.invariant-loop
invariant-loop g l = l.drafts.items ≡ replicate l.counter None
