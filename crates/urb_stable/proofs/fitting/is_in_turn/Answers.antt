use Rattle.urb_stable.proofs.Common.{Label, ap, length, not, own, pend, same_client, take, ℕ, ◌==◌}
use Rattle.urb_stable.proofs.Common.{◌∙◌}
use Rattle.urb_stable.proofs.FirstMisfits.{own-turn, turn-clients}
use Rattle.urb_stable.proofs.fitting.is_in_turn.Goals as goal

pub returns-else-ne : goal.returns-else-ne
returns-else-ne g c =
    let earlier = take c.args.place c.args.image.now.records in
    let said = c.facts_before.ensures c.args.entry.now c.requires.here in
    own-turn c.args.node earlier c.args.entry.now c.in-Pend.name c.in-Pend.message
    c.is_next_own.result c.in-Pend.is
    (c.if-ne.ensures ∙ ap (λ (x : Label). not (x.sender == c.args.node)) c.name.view_is)
    (c.is_next_own.ensures (own c.args.node (pend earlier))
    (said.messages ∙ ap (λ (p : ℕ). length (own p (pend earlier))) c.requires.numbered)
    (said.clients ∙ (ap (λ (p : ℕ). same_client c.args.entry.now (own p (pend earlier)))
    c.requires.numbered ∙ turn-clients c.args.entry.now c.in-Pend.name c.in-Pend.message
    (own c.args.node (pend earlier)) c.in-Pend.is)))
