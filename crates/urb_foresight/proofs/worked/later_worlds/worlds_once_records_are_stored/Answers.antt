-- In which worlds a prediction holds.
use Rattle.std.proofs.Common.{List, None, [], ap, arith, eqb-true, false, inl, inr, refl, subst, suc}
use Rattle.std.proofs.Common.{sym, true, zero, ℕ, ⊎_elim, ◌&&◌, ◌==◌, ◌||◌, ◌∷◌, ◌≡◌, ◌≢◌, ◌⊎◌}
use Rattle.std.proofs.lemmas.Bool.{and_parts, false≢true, or_cases}
use Rattle.urb_names.specs.Acknowledgements.{acked}
use Rattle.urb_names.specs.LabelsAndContents.{Content, Label, Limits}
use Rattle.urb_names.specs.ListPrefixes.{Begins}
use Rattle.urb_names.specs.Names.{name, same_name}
use Rattle.urb_names.specs.Pairs.{has_pair}
use Rattle.urb_node.specs.Part.{Down, Ready, State}
use Rattle.urb_stable.specs.Records.{pend}
use Rattle.urb_world.specs.World.{World, stored}
use Rattle.urb_world.specs.internal.Examples.{pending}
use Rattle.urb_world.specs.internal.Scripts.{message}
use Rattle.urb_foresight.specs.internal.ForesightExamples.{having_counted, having_stored, the_first}
use Rattle.urb_foresight.proofs.worked.later_worlds.worlds_once_records_are_stored.Goals as goal

some-none : {A : Type 0} (x : A) (xs : List A) → x ∷ xs ≡ [] → ⊥
some-none x xs e = cc

two-one : ◌≢◌ {A = ℕ} 2 1
two-one e = let two : ◌≡◌ {A = ℕ} 2 1 = e in omega (arith, two)

pub returns-clause-nothing_new : goal.returns-clause-nothing_new
returns-clause-nothing_new c = record {
  size = refl;
  ready = refl;
  may = tt;
  behind = refl;
  others = λ q apart. ([], refl);
  heard = λ x m q apart new counted h. h;
}

pub returns-clause-its_first_record : goal.returns-clause-its_first_record
returns-clause-its_first_record c = record {
  size = refl;
  ready = refl;
  may = (record { a = refl; b = refl; c = refl; d = refl }, tt);
  behind = refl;
  others = λ q apart. (stored (having_stored (the_first ∷ [])) q, refl);
  heard = λ x m q apart new counted h. at x m q apart counted;
}
  where
    at : (x : Label) (m : Content) (q : ℕ) → q ≢ 1 → acked ((name 1 1, 1) ∷ []) x q ≡ true
        → has_pair (pend []) x m ≡ true
    at x m q apart counted =
        ⊎_elim (λ e. absurd (apart (sym (eqb-true 1 q
        (and_parts (same_name (name 1 1) x) (1 == q) e).1)))) (λ e. absurd (false≢true e))
        (or_cases (same_name (name 1 1) x && (1 == q)) false counted)

pub returns-clause-more_of_another : goal.returns-clause-more_of_another
returns-clause-more_of_another c = record {
  size = refl;
  ready = refl;
  may = tt;
  behind = refl;
  others = λ q apart. (stored (having_stored ([] ∷ (pending 2 1 ∷ []) ∷ [])) q, refl);
  heard = λ x m q apart new counted h. absurd (false≢true counted);
}

-- two nodes hold the pair
abbrev held_by_two : World
held_by_two = having_stored (the_first ∷ the_first ∷ [])

-- then a third one, and node 1 has counted the second
abbrev held_by_three : World
held_by_three = having_counted (the_first ∷ the_first ∷ the_first ∷ [])

two-begin : (q : ℕ) → q ≢ 1 → Begins (stored held_by_two q) (stored held_by_three q)
two-begin zero apart = ([], refl)
two-begin (suc zero) apart = absurd (apart refl)
two-begin (suc (suc zero)) apart = ([], refl)
two-begin (suc (suc (suc q))) apart = (stored held_by_three (suc (suc (suc q))), refl)

-- only nodes 1 and 2 are counted
counted-two : (x : Label) (q : ℕ) → acked ((name 1 1, 1) ∷ (name 1 1, 2) ∷ []) x q ≡ true
    → ((1 == q) ≡ true) ⊎ ((2 == q) ≡ true)
counted-two x q counted =
    ⊎_elim (λ e. inl (and_parts (same_name (name 1 1) x) (1 == q) e).1)
    (λ e. ⊎_elim (λ f. inr (and_parts (same_name (name 1 1) x) (2 == q) f).1)
    (λ f. absurd (false≢true f)) (or_cases (same_name (name 1 1) x && (2 == q)) false e))
    (or_cases (same_name (name 1 1) x && (1 == q)) ((same_name (name 1 1) x && (2 == q)) || false)
    counted)

pub returns-clause-more_of_a_third : goal.returns-clause-more_of_a_third
returns-clause-more_of_a_third c = record {
  size = refl;
  ready = refl;
  may = tt;
  behind = refl;
  others = two-begin;
  heard = λ x m q apart new counted h.
      ⊎_elim (λ e. absurd (apart (sym (eqb-true 1 q e))))
      (λ e. subst (λ (i : ℕ). has_pair (pend (stored held_by_three i)) x m ≡ true
      → has_pair (pend (stored held_by_two i)) x m ≡ true) (eqb-true 2 q e) (λ k. k) h)
      (counted-two x q counted);
}

pub returns-clause-no_new_holder_counted : goal.returns-clause-no_new_holder_counted
returns-clause-no_new_holder_counted c h =
    false≢true (h.heard (name 1 1) (message 7 1 "") 2 two-one refl refl refl)

pub returns-clause-not_without_it : goal.returns-clause-not_without_it
returns-clause-not_without_it c h = some-none (pending 1 1) [] (sym h.behind)

pub returns-clause-not_less_of_another : goal.returns-clause-not_less_of_another
returns-clause-not_less_of_another c h =
    some-none (pending 2 1) (h.others 2 two-one).0 (h.others 2 two-one).1

pub returns-clause-no_gap : goal.returns-clause-no_gap
returns-clause-no_gap c h = false≢true h.may.0.b

down-ready : ◌≡◌ {A = State} (Down None) Ready → ⊥
down-ready e = cc

pub returns-clause-not_down : goal.returns-clause-not_down
returns-clause-not_down c h = down-ready h.ready

pub returns-clause-no_other_limits : goal.returns-clause-no_other_limits
returns-clause-no_other_limits c h =
    let same : 11 ≡ 10 = ap (λ (l : Limits). l.cap) h.size in
    omega (arith, same)
