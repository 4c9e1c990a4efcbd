-- Nodes that are ready leave exactly their records.
use Rattle.urb_world.proofs.Common.{Entry, HaveMajorities, List, [], arith, cert, false≢true}
use Rattle.urb_world.proofs.Common.{has_name, has_pair, held_by_three, image_of, inl, inr, length}
use Rattle.urb_world.proofs.Common.{limits, message, name, own, pend, refl, subst, suc, sym, true}
use Rattle.urb_world.proofs.Common.{two_of_one, zero, ℕ, ⊎_elim, ◌∷◌, ◌≡◌, ◌≤◌}
use Rattle.urb_world.proofs.steps.Runs.{fitting-kept}
use Rattle.urb_world.proofs.stops.LimitChanges.{have-majorities, own-within}
use Rattle.urb_stable.proofs.KeptRules.{majority_held-grows}
use Rattle.urb_world.proofs.worked.starts.starts.Goals as goal

-- the same images have the same majorities
same-majorities : (n : ℕ) (images others : ℕ → List Entry) → ((p : ℕ) → images p ≡ others p)
    → HaveMajorities n others → HaveMajorities n images
same-majorities n images others same h p x m pair certified =
    majority_held-grows n others images x m
    (λ q y o k. subst (λ (rs : List Entry). has_pair (pend rs) y o ≡ true) (sym (same q)) k)
    (h p x m (subst (λ (rs : List Entry). has_pair (pend rs) x m ≡ true) (same p) pair)
    (subst (λ (rs : List Entry). has_name (cert rs) x ≡ true) (same p) certified))

-- the new nodes have no records
with-new : (p : ℕ) → image_of (held_by_three []) p ≡ image_of (held_by_three ([] ∷ [] ∷ [])) p
with-new zero = refl
with-new (suc zero) = refl
with-new (suc (suc zero)) = refl
with-new (suc (suc (suc zero))) = refl
with-new (suc (suc (suc (suc zero)))) = refl
with-new (suc (suc (suc (suc (suc zero))))) = refl
with-new (suc (suc (suc (suc (suc (suc p)))))) = refl

pub returns-clause-a_greater_cap : goal.returns-clause-a_greater_cap
returns-clause-a_greater_cap c = record {
  nodes = omega arith;
  cap = inl (omega arith);
  majorities = inl refl;
}

pub returns-clause-a_cap_that_is_reached : goal.returns-clause-a_cap_that_is_reached
returns-clause-a_cap_that_is_reached c =
    record {
      nodes = omega arith;
      cap = inr (λ images left p. subst (λ (rs : List Entry). length (own p (pend rs)) ≤ 2)
          (sym (left p)) (own-within (limits 1 2) (image_of (two_of_one ∷ []))
          (fitting-kept (limits 1 2) (two_of_one ∷ []) refl refl) p));
      majorities = inl refl;
    }

pub returns-clause-a_cap_that_is_too_small : goal.returns-clause-a_cap_that_is_too_small
returns-clause-a_cap_that_is_too_small c may =
    ⊎_elim (λ more. absurd (omega (arith, more)))
    (λ always. absurd (let two = always (image_of (two_of_one ∷ [])) (λ p. refl) 1 in
    omega (arith, two))) may.cap

pub returns-clause-five_nodes : goal.returns-clause-five_nodes
returns-clause-five_nodes c =
    record {
      nodes = omega arith;
      cap = inl (omega arith);
      majorities = inr (λ images left.
          same-majorities 5 images (image_of (held_by_three [])) left
          (same-majorities 5 (image_of (held_by_three []))
          (image_of (held_by_three ([] ∷ [] ∷ []))) with-new
          (have-majorities (limits 5 10) _
          (fitting-kept (limits 5 10) (held_by_three ([] ∷ [] ∷ [])) refl refl))));
    }

pub returns-clause-six_nodes : goal.returns-clause-six_nodes
returns-clause-six_nodes c may =
    ⊎_elim (λ same. absurd (omega (arith, same)))
    (λ always. absurd (false≢true (always (image_of (held_by_three [])) (λ p. refl) 1 (name 1 1)
    (message 7 1 "") refl refl))) may.majorities

pub returns-clause-fewer_nodes : goal.returns-clause-fewer_nodes
returns-clause-fewer_nodes c may = let more = may.nodes in omega (arith, more)
