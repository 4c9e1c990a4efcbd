-- A stocked cluster after a store in memory that was armed to fail.
use Rattle.urb_group.proofs.Common.{Bool, Breaks, BreaksArmed, Clustered, Down, Entry, Fail}
use Rattle.urb_group.proofs.Common.{FailsHeld, Failure, IsStocked, IsStoreOf, Node, None, Option}
use Rattle.urb_group.proofs.Common.{Placed, Some, ap, armed_with, false, held_draft, in_memory, inl}
use Rattle.urb_group.proofs.Common.{inr, is_down, is_out_of_place, length, refl, true, ℕ, ⊎_elim}
use Rattle.urb_group.proofs.Common.{◌+◌, ◌∙◌, ◌≡◌, ◌⊎◌}
use Rattle.urb_group.proofs.stops.NodeStoreInvariant.{fell-beside, quiet-beside}
use Rattle.urb_group.proofs.stops.StockedClusters.{beside-stocked, fallen, stock-lasts}
use Rattle.urb_group.proofs.stops.StockedClusters.{stocked-beside}
use Rattle.urb_group.specs.ClusterCalls.{FailsDraft}
use Rattle.urb_node.specs.Replies.{Reply}
use Rattle.urb_stable.specs.MemoryStores.{Memory}
use Rattle.urb_stable.specs.declared.memory.Failure.TheVariants as failure

-- what is certain stays, and the store has the record in doubt, or nothing of it
pub record Leaves (before after : Memory) (entry : Entry) : Type 0 where
  -- what is certain stays
  pub certain : after.certain ≡ before.certain
  -- if no record was in doubt, then this record is in doubt, or none is
  pub doubt : before.doubt ≡ None → (after.doubt ≡ None) ⊎ (after.doubt ≡ Some entry)

-- what is certain and what is in doubt stays
as-before : (m n : Memory) (entry : Entry) (after : Memory) → after ≡ n → n.certain ≡ m.certain
    → n.doubt ≡ m.doubt → Leaves m after entry
as-before m n entry after e certain doubt = record {
  certain = ap (λ (a : Memory). a.certain) e ∙ certain;
  doubt = λ none. inl (ap (λ (a : Memory). a.doubt) e ∙ (doubt ∙ none));
}

-- a failure on request leaves the certain records, with this record in doubt, or nothing of it
pub breaks-leaves : (out : Bool) (failure : Failure) (m : Memory) (entry : Entry) (after : Memory)
    → Breaks out failure m entry after → Leaves m after entry
breaks-leaves true failure m entry after h = as-before m m entry after h refl refl
breaks-leaves false failure.Old m entry after h =
    ⊎_elim (λ e. record {
      certain = ap (λ (a : Memory). a.certain) e;
      doubt =
          λ none. inl (ap (λ (a : Memory). a.doubt) e);
    })
    (λ e. as-before m _ entry after e refl refl) h
breaks-leaves false failure.New m entry after h =
    ⊎_elim (λ e. record {
      certain = ap (λ (a : Memory). a.certain) e;
      doubt =
          λ none. inr (ap (λ (a : Memory). a.doubt) e);
    })
    (λ e. as-before m _ entry after e refl refl) h

broke : {A : Type 0} (node new : Node) (before after : Memory) (draft : Placed) (failure : Failure)
    → BreaksArmed failure before draft after → IsStoreOf (in_memory A) node before
    → is_down node.state ≡ false
    → new.records ≡ node.records → new.state ≡ Down (Some draft.entry)
    → IsStoreOf (in_memory A) new after
broke {A} node new before after draft failure breaks store up records down =
    let left : Leaves (armed_with failure before) after draft.entry =
    breaks-leaves (is_out_of_place before.doubtful (length before.certain + 1) draft.pos)
    failure (armed_with failure before) draft.entry after breaks in
    fallen (in_memory A) node new after draft.entry (λ honest. left.certain ∙ (store.up tt up).0)
    (λ honest. left.doubt (store.up tt up).1) (λ honest records c. c) records down

fails-draft : {A : Type 0} (old new : Clustered Memory) (p : ℕ) (draft : Placed) (failure : Failure)
    (reply : Reply) → held_draft old.group p ≡ Some draft → FailsDraft old draft failure reply new
    → IsStocked (in_memory A) old → IsStocked (in_memory A) new
fails-draft {A} old new p draft failure reply there fails h =
    stocked-beside (in_memory A) new
    (fell-beside (IsStoreOf (in_memory A))
    old new p draft reply fails.before fails.after there fails.moves fails.event
    (λ node fell store up records down.
    broke {A = A} node fell fails.before fails.after draft failure fails.breaks store up records
    down)
    (beside-stocked (in_memory A) old h))

-- a stocked cluster is stocked after the failure of a store on request
pub fails-stocked : {A : Type 0} (old new : Clustered Memory) (p : ℕ) (failure : Failure)
    (reply : Reply) → FailsHeld old p (held_draft old.group p) failure reply new
    → IsStocked (in_memory A) old → IsStocked (in_memory A) new
fails-stocked {A} old new p failure reply fails h = at (held_draft old.group p) refl fails
  where
    at : (d : Option Placed) → held_draft old.group p ≡ d → FailsHeld old p d failure reply new
        → IsStocked (in_memory A) new
    at None e alone =
        stocked-beside (in_memory A) new
        (quiet-beside (in_memory A) (IsStoreOf (in_memory A)) (stock-lasts (in_memory A)) old new
        (Fail p) reply tt alone (beside-stocked (in_memory A) old h))
    at (Some draft) e held = fails-draft {A = A} old new p draft failure reply e held h
