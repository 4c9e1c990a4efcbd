use Rattle.urb_show.proofs.Common.{Node, ap, refl, ◌≡◌}
use Rattle.urb_group.specs.declared.state.State.TheVariants as state
use Rattle.urb_show.proofs.worked.service.submits.Goals as goal

pub returns-clause-new : goal.returns-clause-new
returns-clause-new c = (refl, refl)

pub returns-clause-again : goal.returns-clause-again
returns-clause-again c = (refl, refl)

pub returns-clause-another_payload : goal.returns-clause-another_payload
returns-clause-another_payload c = (refl, refl)

pub returns-clause-too_early : goal.returns-clause-too_early
returns-clause-too_early c = (refl, refl)

pub returns-clause-full : goal.returns-clause-full
returns-clause-full c = (refl, refl)

pub returns-clause-at_a_node_that_is_down : goal.returns-clause-at_a_node_that_is_down
returns-clause-at_a_node_that_is_down c = (refl, refl)

pub returns-clause-at_a_node_that_writes : goal.returns-clause-at_a_node_that_writes
returns-clause-at_a_node_that_writes c = (refl, refl)

pub returns-clause-not_accepted_at_once : goal.returns-clause-not_accepted_at_once
returns-clause-not_accepted_at_once c h = let e : state.Ready ≡ state.Storing = ap (λ (n : Node). n.state) h.1 in cc
