use Rattle.urb_show.proofs.Common.{Bool, Node, Resumes, [], ap, arith, cond, false, inl, inr, m1}
use Rattle.urb_show.proofs.Common.{m2, name, ready, refl, true, ⊎_elim, ◌==◌, ◌∷◌, ◌≡◌, ◌≤◌}
use Rattle.urb_show.specs.internal.ServiceExamples.{pair_of, storing}
use Rattle.urb_show.proofs.worked.service.services.Goals as goal

pub returns-clause-another_node : goal.returns-clause-another_node
returns-clause-another_node c h =
    let e : name 1 1 ∷ [] ≡ [] = ap (λ (n : Node). n.log) (h.others 2 (λ f. omega (arith, f))) in cc

pub returns-clause-lost_by_a_stop : goal.returns-clause-lost_by_a_stop
returns-clause-lost_by_a_stop c h =
    ⊎_elim (λ k. let e : m1 ∷ [] ≡ m1 ∷ m2 ∷ [] = ap (λ (n : Node). n.list) k.2 in cc)
    (λ k. let e : m1 ∷ [] ≡ m1 ∷ m2 ∷ [] = ap (λ (n : Node). n.list) k.2 in cc) (h.1 1)

pub returns-clause-start : goal.returns-clause-start
returns-clause-start c = (refl, λ p. at (p == 1))
  where
    at : (b : Bool) → Resumes (pair_of (ready (m1 ∷ []) []) (ready [] (name 1 1 ∷ [])))
        (cond b (storing [] [] (m1 ∷ [])) (ready [] []))
        (cond b (ready (m1 ∷ []) []) (ready [] (name 1 1 ∷ [])))
    at true = inr ([], tt, refl)
    at false = (let one : 1 ≤ 1 = omega arith in inl (name 1 1 ∷ [], (refl, one, tt), refl))
