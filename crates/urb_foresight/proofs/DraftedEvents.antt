-- What an event drafts, by the outcome at its node.
use Rattle.std.proofs.Common.{Option, ap, ne_eqb, subst, ℕ, ◌∙◌, ◌≡◌, ◌⊎◌, List, inl, inr}
use Rattle.urb_names.specs.LabelsAndContents.{Limits}
use Rattle.urb_names.specs.declared.refusal.Refusal.{Refusal}
use Rattle.urb_node.specs.Part.{Node, Ready, State, Storing}
use Rattle.urb_node.specs.Replies.{Drafted, Reply}
use Rattle.urb_node.specs.Steps.{drafts, next_position}
use Rattle.urb_node.specs.declared.cause.Cause.{Cause}
use Rattle.urb_stable.specs.Entries.{Entry, name_of}
use Rattle.urb_world.proofs.steps.DraftsInSteps.{step-elsewhere, step-size}
use Rattle.urb_world.proofs.steps.OneNodeStep.{updated-at}
use Rattle.urb_world.proofs.steps.Runs.{step-keeps}
use Rattle.urb_world.proofs.steps.StepCases.{outcome_of, step-here}
use Rattle.urb_world.specs.EventEffects.{event_node}
use Rattle.urb_world.specs.RunInvariant.{MayJoin, NodesKept, StateKept}
use Rattle.urb_world.specs.Step.{Event, step, world_after}
use Rattle.urb_world.specs.World.{World, stored}
use Rattle.urb_foresight.proofs.FollowingRecords.{join-moves}
use Rattle.urb_foresight.specs.ForeseenDrafts.{Drafts, DraftsNone}

-- an event whose outcome is a draft of the record drafts it
pub drafts-is : (v : World) (p : ℕ) (event : Event) (r : Entry) (cause : Option Cause) (node : Node)
    → step v event ≡ world_after v p (drafts node r cause)
    → next_position node ≡ next_position (v.node p) → Drafts p event r v
drafts-is v p event r cause node is same = record {
  told = ap (λ (o : Reply × World). o.0) is ∙ ap (Drafted (name_of r)) same;
  cause = cause;
  held = ap (λ (o : Reply × World). (o.1.node p).state) is
      ∙ ap (λ (n : Node). n.state) (updated-at v.node p (drafts node r cause).1);
}

-- the outcome holds a draft of this record, and stores nothing
pub record HoldsDraft (r : Entry) (records : List Entry) (node : Node) : Type 0 where
  -- the packet that caused it, if any
  pub cause : Option Cause
  -- the node holds the record
  pub state : node.state ≡ Storing r cause
  -- its stored records are these
  pub stays : node.records ≡ records

-- a record that is drafted in a world that keeps the rules may join
joins-once : (v : World) (event : Event) → NodesKept v → (r : Entry)
    → HoldsDraft r (stored v (event_node event)) ((step v event).1.node (event_node event))
    → MayJoin v.size (stored v) (event_node event) (stored v (event_node event)) r
joins-once v event kept r h =
    subst (λ (l : Limits). MayJoin l (stored v) p (stored v p) r) (step-size v event)
    (join-moves after.size (stored after) (stored v) p (stored v p) r
    (λ q apart. ap (λ (n : Node). n.records) (step-elsewhere v event q (ne_eqb q p apart)))
    (subst (λ (rs : List Entry). MayJoin after.size (stored after) p rs r) h.stays held.0))
  where
    p : ℕ
    p = event_node event

    after : World
    after = (step v event).1

    held : StateKept after.size (stored after) p (stored after p) (Storing r h.cause)
    held =
        subst (λ (s : State). StateKept after.size (stored after) p (stored after p) s) h.state
        ((step-keeps v event kept).nodes p).state

-- the node is ready, or it holds a draft of one of two records
abbrev pub IsReadyOr : Entry → Entry → List Entry → Node → Type 0
IsReadyOr r s records node =
    (node.state ≡ Ready) ⊎ (HoldsDraft r records node ⊎ HoldsDraft s records node)

-- an event drafts none if its node is ready, and it can draft only records that may not join
pub drafts-none : (v : World) (event : Event) → NodesKept v
    → (v.node (event_node event)).state ≡ Ready → (r s : Entry)
    → IsReadyOr r s (stored v (event_node event)) (outcome_of v event).1
    → (MayJoin v.size (stored v) (event_node event) (stored v (event_node event)) r → ⊥)
    → (MayJoin v.size (stored v) (event_node event) (stored v (event_node event)) s → ⊥)
    → DraftsNone (event_node event) event v
drafts-none v event kept ready r s outcome never also =
    at (step-here (λ (o : Reply × Node). IsReadyOr r s (stored v (event_node event)) o.1) v event
    (λ (refusal : Refusal). inl ready) outcome)
  where
    at : IsReadyOr r s (stored v (event_node event)) ((step v event).1.node (event_node event))
        → DraftsNone (event_node event) event v
    at (inl e) = e
    at (inr (inl h)) = absurd (never (joins-once v event kept r h))
    at (inr (inr h)) = absurd (also (joins-once v event kept s h))
