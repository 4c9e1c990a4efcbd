-- A payload over the limit is not short.
use Rattle.std.proofs.Common.{List, [], ap, arith, length, refl, suc, zero, ℕ, ◌∙◌, ◌∷◌, ◌≡◌, ◌≤◌}
use Rattle.urb_names.specs.Names.{name}
use Rattle.urb_names.specs.LabelsAndContents.{Content, Label}
use Rattle.urb_world.specs.World.{stored}
use Rattle.urb_world.specs.internal.Scripts.{message}
use Rattle.std.specs.Prelude.{replicate}
use Rattle.urb_names.proofs.OrderedPairs.{has_pair-head}
use Rattle.urb_world.specs.RunInvariant.{AreShort}
use Rattle.urb_world.specs.internal.Examples.{filled}
use Rattle.urb_step_examples.proofs.worked.kept_worlds.short_payloads.Goals as goal

count-replicated : (count : ℕ) (byte : ℕ) → length (replicate count byte) ≡ count
count-replicated zero byte = refl
count-replicated (suc count) byte = ap suc (count-replicated count byte)

-- the message of a pair among others is short if all are
first-short : (m : Content) (pairs : List (Label × Content)) → AreShort ((name 1 1, m) ∷ pairs)
    → length m.payload ≤ 16384
first-short m pairs short = short (name 1 1) m (has_pair-head (name 1 1, m) pairs)

too-long : (m : Content) → m ≡ filled 7 1 16385 → length m.payload ≤ 16384 → ⊥
too-long m is short =
    let long =
    ap (λ (it : Content). length it.payload) is ∙ count-replicated 16385 120 in
    absurd (omega (arith, short, long))

pub returns-clause-not_a_long_one : goal.returns-clause-not_a_long_one
returns-clause-not_a_long_one c h = too-long _ refl (first-short (filled 7 1 16385) [] h)

pub returns-clause-not_a_long_one_that_is_stored : goal.returns-clause-not_a_long_one_that_is_stored
returns-clause-not_a_long_one_that_is_stored c h =
    too-long _ refl (first-short (filled 7 1 16385) [] h.stored)

pub returns-clause-not_a_long_one_in_doubt : goal.returns-clause-not_a_long_one_in_doubt
returns-clause-not_a_long_one_in_doubt c h =
    too-long _ refl (first-short (filled 7 1 16385) [] h.doubtful)

pub returns-clause-not_a_long_one_in_four : goal.returns-clause-not_a_long_one_in_four
returns-clause-not_a_long_one_in_four c h =
    too-long _ refl (first-short (filled 7 1 16385) [] (h 1).stored)

pub returns-clause-not_a_world_with_a_long_one : goal.returns-clause-not_a_world_with_a_long_one
returns-clause-not_a_world_with_a_long_one c h =
    too-long _ refl (first-short (filled 7 1 16385) [] (h.short 1).stored)
