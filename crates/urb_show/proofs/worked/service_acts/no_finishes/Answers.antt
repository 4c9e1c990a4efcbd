-- What no node finishes.
use Rattle.urb_show.proofs.Common.{Content, Join, Label, List, Node, Service, State, [], ap, arith}
use Rattle.urb_show.proofs.Common.{length, m1, name, refl, subst, sym, told, zero, ◌∷◌, ◌≡◌, ◌≤◌}
use Rattle.urb_show.specs.internal.ServiceExamples.{both}
use Rattle.urb_group.specs.declared.state.State.TheVariants as state
use Rattle.urb_show.proofs.worked.service_acts.no_finishes.Goals as goal

lost : (xs : List Content) → [] ≡ m1 ∷ xs → ⊥
lost xs e = cc

ready-storing : state.Ready ≡ state.Storing → ⊥
ready-storing e = cc

-- a name of node 2 joins no log, if node 2 has accepted nothing
no_list : (s : Service) (joined : List Label) → (s.node 2).list ≡ []
    → name 2 1 ∷ [] ≡ joined → Join s [] joined → ⊥
no_list s joined none is join =
    let there = subst (λ (l : List Label). Join s [] l) (sym is) join in
    let low : 1 ≤ length (s.node 2).list = there.1 in
    let zero : length (s.node 2).list ≡ 0 = ap (λ (l : List Content). length l) none in
    omega (arith, low, zero)

pub returns-clause-of_a_ready_node : goal.returns-clause-of_a_ready_node
returns-clause-of_a_ready_node c (is, told, comes) = ready-storing is

pub returns-clause-accepted_and_lost : goal.returns-clause-accepted_and_lost
returns-clause-accepted_and_lost c (is, told, (joined, join, came)) = lost _ (ap (λ (n : Node). n.list) came)

pub returns-clause-a_name_of_no_message : goal.returns-clause-a_name_of_no_message
returns-clause-a_name_of_no_message c (is, told, (joined, join, came)) =
    no_list both joined refl (ap (λ (n : Node). n.log) came) join

pub returns-clause-a_gap_behind_a_name : goal.returns-clause-a_gap_behind_a_name
returns-clause-a_gap_behind_a_name c (first, low, (next, below, more)) = let e : 3 ≡ 2 = next in omega (arith, e)
