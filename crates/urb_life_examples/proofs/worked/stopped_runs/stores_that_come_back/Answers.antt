-- Stores that are asked and served keep their number, and their failures.
use Rattle.std.proofs.Common.{List, [], ap, arith, inl, inr, refl, sym, ◌∙◌, ◌∷◌, ◌≡◌, ◌≤◌, ◌⊎◌}
use Rattle.urb_group.specs.GroupViews.{GroupView}
use Rattle.urb_stable.specs.MemoryStores.{Memory, empty_memory}
use Rattle.urb_turn.specs.internal.TurnExamples.{failed_once, memory}
use Rattle.urb_worker.specs.ServedStores.Serves.{Rests}
use Rattle.urb_daemon.specs.Runs.{HaveServed, MayAllBeAsked, MayBeAsked}
use Rattle.urb_life_examples.proofs.worked.stopped_runs.stores_that_come_back.Goals as goal

some-none : {A : Type 0} (x : A) (xs : List A) → x ∷ xs ≡ [] → ⊥
some-none x xs e = cc

fewer : (after : Memory) → after ≡ empty_memory → MayBeAsked memory failed_once after → ⊥
fewer after is (inl same) =
    let one : 0 ≡ 1 = ap (λ (m : Memory). m.failures) (sym is ∙ same) in
    absurd (omega (arith, one))
fewer after is (inr (answer, gives)) =
    let none : after.failures ≡ 0 = ap (λ (m : Memory). m.failures) is in
    let grows : 1 ≤ after.failures = gives.counts.grows in
    absurd (omega (arith, none, grows))

-- no stores are none once they are asked
none-asked : (asked : List Memory) → MayAllBeAsked memory [] asked → asked ≡ []
none-asked [] h = refl
none-asked (a ∷ asked) h = absurd h

more : (asked : List Memory) → asked ≡ []
    → ((empty_memory ∷ [] ≡ asked)
    ⊎ ((group : GroupView) × HaveServed memory group asked (empty_memory ∷ []))) → ⊥
more [] is (inl same) = some-none empty_memory [] same
more [] is (inr (group, served)) = served
more (a ∷ asked) is h = some-none a asked is

pub returns-clause-as_they_were : goal.returns-clause-as_they_were
returns-clause-as_they_were c = record {
  asked = empty_memory ∷ [];
  first = (inl refl, tt);
  then = inl refl;
}

pub returns-clause-not_with_a_store_more : goal.returns-clause-not_with_a_store_more
returns-clause-not_with_a_store_more c h = more h.asked (none-asked h.asked h.first) h.then

pub returns-clause-not_asked_without_a_failure : goal.returns-clause-not_asked_without_a_failure
returns-clause-not_asked_without_a_failure c h = fewer empty_memory refl h.0

pub returns-clause-not_asked_with_a_store_more : goal.returns-clause-not_asked_with_a_store_more
returns-clause-not_asked_with_a_store_more c h = h.1

pub returns-clause-served_by_no_job : goal.returns-clause-served_by_no_job
returns-clause-served_by_no_job c = (∣ ([], Rests empty_memory []) ∣₁, tt)

pub returns-clause-not_served_with_a_store_more : goal.returns-clause-not_served_with_a_store_more
returns-clause-not_served_with_a_store_more c h = h
