-- What nodes deliver begins with number 1, and is the same.
use Rattle.std.proofs.Common.{List, [], ap, arith, length, refl, suc, zero, ℕ, ⊎_elim, ◌<◌, ◌∷◌}
use Rattle.std.proofs.Common.{◌≡◌, ◌≤◌}
use Rattle.std.proofs.lemmas.Grind.{common_steps}
use Rattle.urb_names.specs.Names.{name}
use Rattle.urb_names.specs.LabelsAndContents.{Content, Label}
use Rattle.urb_world.specs.internal.Scripts.{message}
use Rattle.std.specs.Prelude.{map, ◌^◌}
use Rattle.urb_names.specs.ListPrefixes.{OneBegins}
use Rattle.urb_names.specs.Nodes.{numbers_from}
use Rattle.urb_step_examples.proofs.worked.delivered_messages.when_nodes_agree.Goals as goal

-- each number gives one delivery
as-many : (first count : ℕ)
    → length {A = Label × Content}
    (map (λ number. (name 1 number, message 7 number "")) (numbers_from first count))
    ≡ count
as-many first zero = refl
as-many first (suc count) = ap suc (as-many (suc first) count)

-- two lists with other messages, in whatever order
differ : (xs ys : List (Label × Content))
    → xs ≡ (name 1 1, message 1 1 "") ∷ [] → ys ≡ (name 1 1, message 2 1 "") ∷ []
    → OneBegins xs ys → ⊥
differ xs ys first second h =
    ⊎_elim (λ one. let e = one.1 in grind (arith, common_steps, first, second, e))
    (λ other. let e = other.1 in grind (arith, common_steps, first, second, e)) h

-- as many as 2^32 are too many
too-many : (found count : ℕ) → found ≡ count → 2 ^ 32 ≤ count → found < 2 ^ 32 → ⊥
too-many found count same least short = absurd (omega (arith, same, least, short))

pub returns-clause-not_without_the_first : goal.returns-clause-not_without_the_first
returns-clause-not_without_the_first c h = let e = h.numbers 1 1 in grind (arith, common_steps, e)

pub returns-clause-not_on_different_messages : goal.returns-clause-not_on_different_messages
returns-clause-not_on_different_messages c h = differ _ _ refl refl (h.one_begins 1 2 1)

pub returns-clause-not_on_too_many : goal.returns-clause-not_on_too_many
returns-clause-not_on_too_many c count least h =
    too-many _ count (as-many 1 count) least (h.short 1)
