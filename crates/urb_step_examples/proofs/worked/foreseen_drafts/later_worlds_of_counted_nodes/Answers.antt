-- Nodes 1 and 2 are counted for node 1's first name alone.
use Rattle.std.proofs.Common.{Bool, [], arith, false, refl, suc, sym, true, zero, ℕ, ⊎_elim, ◌&&◌}
use Rattle.std.proofs.Common.{◌==◌, ◌||◌, ◌∷◌, ◌≡◌, ◌≢◌}
use Rattle.std.proofs.lemmas.Bool.{and_parts, false≢true, or_cases}
use Rattle.urb_foresight.specs.internal.ForesightExamples.{having_counted, having_stored, the_first}
use Rattle.urb_names.proofs.OrderedPairs.{has_pair-head}
use Rattle.urb_names.specs.Acknowledgements.{acked}
use Rattle.urb_names.specs.LabelsAndContents.{Label}
use Rattle.urb_names.specs.ListPrefixes.{Begins}
use Rattle.urb_names.specs.Names.{name, same_name}
use Rattle.urb_step_examples.specs.internal.ForeseenExamples.{one_certified}
use Rattle.urb_world.specs.World.{World, stored}
use Rattle.urb_world.specs.internal.Examples.{filled}
use Rattle.urb_step_examples.proofs.worked.foreseen_drafts.later_worlds_of_counted_nodes.Goals as goal

-- node 1 has certified its first message, and then a second node stores it
abbrev before : World
before = having_stored (one_certified ∷ [])

abbrev after : World
after = having_counted (one_certified ∷ the_first ∷ [])

others-begin : (q : ℕ) → q ≢ 1 → Begins (stored before q) (stored after q)
others-begin zero apart = ([], refl)
others-begin (suc zero) apart = absurd (apart refl)
others-begin (suc (suc q)) apart = (stored after (suc (suc q)), refl)

-- whoever is counted is counted for that name
counted-for : (x : Label) (q : ℕ) → acked ((name 1 1, 1) ∷ (name 1 1, 2) ∷ []) x q ≡ true
    → same_name (name 1 1) x ≡ true
counted-for x q counted =
    ⊎_elim (λ e. (and_parts (same_name (name 1 1) x) (1 == q) e).0)
    (λ e. ⊎_elim (λ f. (and_parts (same_name (name 1 1) x) (2 == q) f).0)
    (λ f. absurd (false≢true f)) (or_cases (same_name (name 1 1) x && (2 == q)) false e))
    (or_cases (same_name (name 1 1) x && (1 == q)) ((same_name (name 1 1) x && (2 == q)) || false)
    counted)

not-both : (is : Bool) → (is || false) ≡ false → is ≡ true → ⊥
not-both true none some = false≢true (sym none)
not-both false none some = false≢true some

two-one : ◌≢◌ {A = ℕ} 2 1
two-one e = let two : ◌≡◌ {A = ℕ} 2 1 = e in omega (arith, two)

pub returns-clause-of_a_certified_name : goal.returns-clause-of_a_certified_name
returns-clause-of_a_certified_name c = record {
  size = refl;
  ready = refl;
  may = tt;
  behind = refl;
  others = others-begin;
  heard = λ x m q apart new counted h.
      absurd (not-both (same_name (name 1 1) x) new (counted-for x q counted));
}

pub returns-clause-not_of_a_long_message : goal.returns-clause-not_of_a_long_message
returns-clause-not_of_a_long_message c h =
    false≢true (h.heard (name 1 1) (filled 7 1 1001) 2 two-one refl refl
    (has_pair-head (name 1 1, filled 7 1 1001) []))
