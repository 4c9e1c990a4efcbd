-- A gap may not follow, and neither may a long payload.
use Rattle.std.proofs.Common.{List, Some, [], ap, arith, length, refl, replicate, subst, suc, zero}
use Rattle.std.proofs.Common.{ℕ, ◌∙◌, ◌∷◌, ◌≡◌, ◌≤◌}
use Rattle.std.proofs.lemmas.Bool.{false≢true}
use Rattle.urb_names.proofs.OrderedPairs.{has_pair-head}
use Rattle.urb_names.specs.LabelsAndContents.{Content}
use Rattle.urb_names.specs.Names.{name}
use Rattle.urb_names.specs.declared.limits.TheConstants.{MAX_PAYLOAD}
use Rattle.urb_node.specs.Part.{Down, Ready, State}
use Rattle.urb_stable.specs.Entries.{Entry}
use Rattle.urb_stable.specs.Records.{pend}
use Rattle.urb_stable.specs.declared.record.Record.TheVariants.{Pend}
use Rattle.urb_turn.specs.internal.TurnExamples.{four}
use Rattle.urb_world.specs.RunInvariant.{AreShort}
use Rattle.urb_world.specs.internal.Examples.{filled, pending}
use Rattle.urb_turn_examples.proofs.worked.held_records.records_that_may_be_held.Goals as goal

count-replicated : (count : ℕ) (byte : ℕ) → length (replicate count byte) ≡ count
count-replicated zero byte = refl
count-replicated (suc count) byte = ap suc (count-replicated count byte)

-- a message whose payload is too long by a byte
abbrev long : Content
long = filled 7 1 (suc MAX_PAYLOAD)

too-long : AreShort (pend (Pend (name 1 1) long ∷ [])) → ⊥
too-long short =
    let count : suc MAX_PAYLOAD ≤ MAX_PAYLOAD =
    subst (λ (count : ℕ). count ≤ MAX_PAYLOAD) (count-replicated (suc MAX_PAYLOAD) 120)
    (short (name 1 1) long (has_pair-head (name 1 1, long) [])) in
    absurd (omega (arith, count))

pub returns-clause-not_the_second : goal.returns-clause-not_the_second
returns-clause-not_the_second c shows h = false≢true (h.may four shows).0.b

pub returns-clause-none_with_a_long_payload : goal.returns-clause-none_with_a_long_payload
returns-clause-none_with_a_long_payload c h = too-long h.short

down-ready : (doubt : Entry) → ◌≡◌ {A = State} (Down (Some doubt)) Ready → ⊥
down-ready doubt e = cc

pub returns-clause-none_of_a_node_that_is_down : goal.returns-clause-none_of_a_node_that_is_down
returns-clause-none_of_a_node_that_is_down c w shows h =
    down-ready (pending 1 1) ((shows.nodes 1).state ∙ h.ready w shows)
