use Rattle.urb_turn.proofs.Common.{replicate, ◌≡◌}
use Rattle.urb_turn.proofs.counting.last_loans.LastLoans.new.Given as goal

abbrev pub invariant-loop : goal.invariant-loop
invariant-loop g l = l.ends.items ≡ replicate l.counter l.end
