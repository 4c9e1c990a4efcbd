-- What no step and no start changes.
use Rattle.urb_show.proofs.Common.{Bool, Content, Limits, List, Node, [], ap, arith, if◌then◌else◌}
use Rattle.urb_show.proofs.Common.{m1, m2, name, ne_eqb, ready, refl, subst, sym, ◌∷◌, ◌≡◌}
use Rattle.urb_show.specs.internal.ServiceExamples.{down}
use Rattle.urb_show.proofs.worked.service_acts.no_steps.Goals as goal

lost : (xs : List Content) → [] ≡ m1 ∷ xs → ⊥
lost xs e = cc

some-none : {A : Type 0} (x : A) (xs : List A) → x ∷ xs ≡ [] → ⊥
some-none x xs e = cc

pub returns-clause-a_crash : goal.returns-clause-a_crash
returns-clause-a_crash c = record {
  size = refl;
  here = (refl, refl);
  others = λ q other. subst
      (λ (b : Bool). (if b then down (m1 ∷ m2 ∷ []) [] [] else ready [] [])
      ≡ (if b then ready (m1 ∷ m2 ∷ []) [] else ready [] [])) (sym (ne_eqb q 1 other)) refl;
}

pub returns-clause-of_another_act : goal.returns-clause-of_another_act
returns-clause-of_another_act c steps = lost _ (ap (λ (n : Node). n.list) steps.here)

pub returns-clause-of_other_limits : goal.returns-clause-of_other_limits
returns-clause-of_other_limits c steps =
    let same : 3 ≡ 2 = ap (λ (l : Limits). l.n) steps.size in omega (arith, same)

pub returns-clause-a_start_with_other_limits : goal.returns-clause-a_start_with_other_limits
returns-clause-a_start_with_other_limits c (size, resumes) =
    let same : 3 ≡ 2 = ap (λ (l : Limits). l.n) size in omega (arith, same)

pub returns-clause-a_lost_message : goal.returns-clause-a_lost_message
returns-clause-a_lost_message c keeps = some-none m1 _ keeps.list.1

pub returns-clause-a_lost_name : goal.returns-clause-a_lost_name
returns-clause-a_lost_name c keeps = some-none (name 1 1) _ keeps.log.1
