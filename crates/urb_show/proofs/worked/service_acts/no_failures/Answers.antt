-- What no crash, no restart, no write and no failure does.
use Rattle.urb_show.proofs.Common.{Content, List, Node, None, Refusal, Some, State, [], ap, m1}
use Rattle.urb_show.proofs.Common.{refl, sym, told, ◌∷◌, ◌≡◌}
use Rattle.urb_group.specs.declared.state.State.TheVariants as state
use Rattle.urb_names.specs.declared.refusal.Refusal.TheVariants as refusal
use Rattle.urb_show.proofs.worked.service_acts.no_failures.Goals as goal

lost : (xs : List Content) → [] ≡ m1 ∷ xs → ⊥
lost xs e = cc

ready-down : state.Ready ≡ state.Down → ⊥
ready-down e = cc

ready-storing : state.Ready ≡ state.Storing → ⊥
ready-storing e = cc

storing-down : state.Storing ≡ state.Down → ⊥
storing-down e = cc

some-none : {A : Type 0} (x : A) → Some x ≡ None → ⊥
some-none x e = cc

not_down : refusal.NotDown ≡ refusal.BadImage → ⊥
not_down e = cc

pub returns-clause-a_refused_crash : goal.returns-clause-a_refused_crash
returns-clause-a_refused_crash c (told, is) = some-none _ told

pub returns-clause-a_crash_that_leaves_it_up : goal.returns-clause-a_crash_that_leaves_it_up
returns-clause-a_crash_that_leaves_it_up c (told, is) = ready-down (ap (λ (n : Node). n.state) is)

pub returns-clause-a_restart_that_is_refused_as_up : goal.returns-clause-a_restart_that_is_refused_as_up
returns-clause-a_restart_that_is_refused_as_up c (why, is) = not_down why

pub returns-clause-a_refused_restart_that_changes : goal.returns-clause-a_refused_restart_that_changes
returns-clause-a_refused_restart_that_changes c (why, is) = lost _ (ap (λ (n : Node). n.list) is)

pub returns-clause-a_write : goal.returns-clause-a_write
returns-clause-a_write c = (refl, refl)

pub returns-clause-a_second_write : goal.returns-clause-a_second_write
returns-clause-a_second_write c (was, is) = ready-storing (sym was)

pub returns-clause-a_write_that_is_over : goal.returns-clause-a_write_that_is_over
returns-clause-a_write_that_is_over c (was, is) = ready-storing (ap (λ (n : Node). n.state) is)

pub returns-clause-a_failure_of_nothing : goal.returns-clause-a_failure_of_nothing
returns-clause-a_failure_of_nothing c (was, is) = ready-storing was

pub returns-clause-a_failure_that_leaves_it_up : goal.returns-clause-a_failure_that_leaves_it_up
returns-clause-a_failure_that_leaves_it_up c (was, is) = storing-down (ap (λ (n : Node). n.state) is)

pub returns-clause-of_a_bad_image : goal.returns-clause-of_a_bad_image
returns-clause-of_a_bad_image c = refl

pub returns-clause-of_a_node_that_writes : goal.returns-clause-of_a_node_that_writes
returns-clause-of_a_node_that_writes c = refl
