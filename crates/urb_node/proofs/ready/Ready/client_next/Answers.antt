use Rattle.urb_node.proofs.Common.{Memory, Ready, ShowsReady, TellsNext, ap, memory_of, next_number}
use Rattle.urb_node.proofs.Common.{own, subst, ℕ, ◌∙◌}
use Rattle.urb_node.proofs.QueryAnswers.{next_says}
use Rattle.urb_node.proofs.ready.Ready.client_next.Goals as goal

pub returns-clause-stored : goal.returns-clause-stored
returns-clause-stored g c =
    let held = c.self.inside.held in
    subst (λ (a : Memory). TellsNext (ShowsReady a) c.args.client c.client_next.result)
    c.self.view_is
    (next_says Ready (memory_of held) c.args.client c.client_next.result
    (c.client_next.ensures.value
    ∙ ap (λ (p : ℕ). next_number c.args.client (own p held.pending.pairs))
    c.self.invariant.pending_node)
    c.client_next.ensures.rising)
