use Rattle.urb_node.proofs.Common.{Down, Fallen, ShowsDown, TellsNext, [], ap, memory_of}
use Rattle.urb_node.proofs.Common.{next_number, own, subst, ℕ, ◌∙◌}
use Rattle.urb_node.proofs.QueryAnswers.{next_says}
use Rattle.urb_node.proofs.down.Down.client_next.Goals as goal

pub returns-clause-stored : goal.returns-clause-stored
returns-clause-stored g c =
    let held = c.self.inside.held in
    subst (λ (f : Fallen). TellsNext (ShowsDown f) c.args.client c.client_next.result)
    c.self.view_is
    (next_says (Down c.self.inside.doubt) (record (memory_of held) { acks = []; heard = [] })
    c.args.client c.client_next.result
    (c.client_next.ensures.value
    ∙ ap (λ (p : ℕ). next_number c.args.client (own p held.pending.pairs))
    c.self.invariant.held.pending_node)
    c.client_next.ensures.rising)
