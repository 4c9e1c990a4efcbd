use Rattle.urb_show.proofs.Common.{Node, [], ap, inl, inr, m1, name, refl, ⊎_elim, ◌∷◌, ◌≡◌}
use Rattle.urb_group.specs.declared.state.State.TheVariants as state
use Rattle.urb_show.proofs.worked.service.failures.Goals as goal

pub returns-clause-crash : goal.returns-clause-crash
returns-clause-crash c = (refl, refl)

pub returns-clause-down_already : goal.returns-clause-down_already
returns-clause-down_already c = (refl, refl)

pub returns-clause-failed_disk : goal.returns-clause-failed_disk
returns-clause-failed_disk c = (refl, refl)

pub returns-clause-restart : goal.returns-clause-restart
returns-clause-restart c = (refl, inl ([], tt, refl))

pub returns-clause-accepted_by_the_restart : goal.returns-clause-accepted_by_the_restart
returns-clause-accepted_by_the_restart c = (refl, inr ([], tt, refl))

pub returns-clause-not_down : goal.returns-clause-not_down
returns-clause-not_down c = (refl, refl)

pub returns-clause-restart_of_a_ready_node : goal.returns-clause-restart_of_a_ready_node
returns-clause-restart_of_a_ready_node c h = let e : state.Ready ≡ state.Down = h.0 in cc

pub returns-clause-a_lost_message : goal.returns-clause-a_lost_message
returns-clause-a_lost_message c h =
    ⊎_elim (λ k. let e : [] ≡ m1 ∷ [] = ap (λ (n : Node). n.list) k.2 in cc)
    (λ k. let e : [] ≡ m1 ∷ [] = ap (λ (n : Node). n.list) k.2 in cc) h.1

pub returns-clause-a_lost_entry : goal.returns-clause-a_lost_entry
returns-clause-a_lost_entry c h =
    ⊎_elim (λ k. let e : [] ≡ name 1 1 ∷ k.0 = ap (λ (n : Node). n.log) k.2 in cc)
    (λ k. let e : [] ≡ name 1 1 ∷ k.0 = ap (λ (n : Node). n.log) k.2 in cc) h.1
