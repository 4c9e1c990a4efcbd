use Rattle.urb_group.proofs.Common.{Some, ap, arith, log}
use Rattle.urb_group.proofs.shown.NodeAnswers.{answered, unanswered}
use Rattle.urb_group.proofs.group.Group.log.Goals as goal

pub returns-in_err-at : goal.returns-in_err-at
returns-in_err-at g c =
    rw (← c.self.view_is, c.from_residual.ensures)
    (unanswered c.self.invariant (λ n. Some (log n.records)) c.args.node c.in_err-at.ensures)

pub index-requires : goal.index-requires
index-requires g c =
    omega (arith, c.in_ok-at.ensures.0, c.self.invariant.placed.count, c.self.inside.nodes.ok.0)

pub returns : goal.returns
returns g c =
    rw (← c.self.view_is)
    (answered c.self.invariant (λ n. Some (log n.records)) c.index.result.now
    (Some c.log.result.now) c.index.ensures c.in_ok-at.ensures.0 c.in_ok-at.ensures.1
    (λ n s. ap Some (c.log.ensures n s)))
