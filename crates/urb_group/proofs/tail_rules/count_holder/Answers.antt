use Rattle.std.proofs.Common.{Bool, ap, cond}
use Rattle.urb_group.proofs.tail_rules.count_holder.Goals as goal

pub returns-then-would_hold-clause-count : goal.returns-then-would_hold-clause-count
returns-then-would_hold-clause-count g c v s =
    ap (λ (b : Bool). cond b 1 0) (rw c.if-would_hold.true at (c.would_hold.ensures v s))

pub returns-clause-count : goal.returns-clause-count
returns-clause-count g c v s =
    ap (λ (b : Bool). cond b 1 0) (rw c.if-would_hold.false at (c.would_hold.ensures v s))
