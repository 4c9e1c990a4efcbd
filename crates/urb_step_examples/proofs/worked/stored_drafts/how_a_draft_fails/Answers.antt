-- A store that was armed and asked to keep a draft in place has failed.
use Rattle.std.proofs.Common.{Some, [], ap, subst, sym, ⊎_elim, ◌∙◌, ◌∷◌, ◌≡◌}
use Rattle.std.proofs.lemmas.Bool.{false≢true}
use Rattle.urb_stable.specs.MemoryStores.{Memory, empty_memory}
use Rattle.urb_world.specs.Step.{step}
use Rattle.urb_world.specs.World.{started}
use Rattle.urb_world.specs.internal.Examples.{limits}
use Rattle.urb_stable.specs.declared.memory.Failure.TheVariants as failure
use Rattle.urb_group.specs.ClusterCalls.{BreaksArmed}
use Rattle.urb_step_examples.specs.internal.GroupExamples.{first_draft}
use Rattle.urb_step_examples.proofs.worked.stored_drafts.how_a_draft_fails.Goals as goal

-- a store that was armed and asked isn't without a doubt
unbroken : (before after : Memory) → empty_memory ∷ [] ≡ after ∷ [] → Some empty_memory ≡ Some before
    → BreaksArmed failure.Old before first_draft after → ⊥
unbroken before after same was breaks =
    let e : empty_memory ≡ before = cc in
    let is : empty_memory ≡ after = cc in
    let broken = subst (λ (m : Memory). BreaksArmed failure.Old m first_draft after) (sym e) breaks in
    ⊎_elim (λ left. false≢true (ap (λ (m : Memory). m.doubtful) (is ∙ left)))
    (λ left. false≢true (ap (λ (m : Memory). m.doubtful) (is ∙ left))) broken

pub returns-clause-a_store_less : goal.returns-clause-a_store_less
unfolding step
returns-clause-a_store_less c h = let is = h.moves.is in absurd (cc)

pub returns-clause-a_store_without_a_failure : goal.returns-clause-a_store_without_a_failure
unfolding step
returns-clause-a_store_without_a_failure c h =
    unbroken h.before h.after h.moves.is h.moves.was h.breaks

pub returns-clause-a_node_that_stays_up : goal.returns-clause-a_node_that_stays_up
unfolding step
returns-clause-a_node_that_stays_up c shows h =
    let told = (h.event (started (limits 3 10)) shows).told in absurd (cc)
