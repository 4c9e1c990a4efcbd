-- A stop inside a call of a cluster. In each store that was honest before, it leaves what a stop
-- may leave of the store's node.
use Rattle.urb_group.proofs.Common.{Applies, AsksStore, Bool, BreaksArmed, Clustered, Command}
use Rattle.urb_group.proofs.Common.{Entry, FailsHeld, Failure, Ghosts, IsContents, IsStocked}
use Rattle.urb_group.proofs.Common.{IsStoreOf, LeavesOf, List, Node, None, Option, Placed}
use Rattle.urb_group.proofs.Common.{RestartsBy, Some, StopLeaves, StoreMoves, StoresDraft}
use Rattle.urb_group.proofs.Common.{StoresHeld, [], and_parts, ap, arith, armed_with, doubt, false}
use Rattle.urb_group.proofs.Common.{held_draft, in_memory, inl, inr, is_down, is_fallen}
use Rattle.urb_group.proofs.Common.{is_out_of_place, length, refl, slice_get, subst, suc, sym, true}
use Rattle.urb_group.proofs.Common.{view_of, ℕ, ⊎_elim, ◌++◌, ◌+◌, ◌-◌, ◌<◌, ◌∙◌, ◌∷◌, ◌≡◌, ◌⊎◌}
use Rattle.urb_node.specs.Replies.{Reply}
use Rattle.urb_stable.specs.MemoryStores.{Memory}
use Rattle.urb_group.proofs.calls.DraftsInCalls.{node-bounds}
use Rattle.urb_group.proofs.stops.NodeStoreInvariant.{HoldsIn, holds-in, one-store, set-cases}
use Rattle.urb_group.proofs.stops.NodeStoreInvariant.{store-before}
use Rattle.urb_group.proofs.stops.StockedClusters.{asked-left, beside-stocked, left-by-draft}
use Rattle.urb_group.proofs.stops.StockedFailures.{Leaves, breaks-leaves}
use Rattle.urb_group.specs.declared.command.Command.TheVariants as command

-- no store was asked
alone-leaves : {S A : Type 0} (g : Ghosts S A) (old new : Clustered S) → new.stores ≡ old.stores
    → (h : IsStocked g old) → StopLeaves g h.world old.stores new.stores
alone-leaves g old new same h i before after was is honest clean =
    (h.stores i after there).left (subst g.is_honest (one-store old.stores i was there) honest)
  where
    there : slice_get old.stores i ≡ Some after
    there = subst (λ stores. slice_get stores i ≡ Some after) same is

-- one store was asked, and a stop inside the call leaves this of it
moved-leaves : {S A : Type 0} (g : Ghosts S A) (old new : Clustered S) (p : ℕ) (asked answered : S)
    → 0 < p → StoreMoves old.stores p asked answered new.stores → (h : IsStocked g old)
    → (g.is_honest asked → g.is_clean answered → LeavesOf g (h.world.node p) answered)
    → StopLeaves g h.world old.stores new.stores
moved-leaves {S} g old new p asked answered positive moves h leaves i before after was is honest
    clean = at (set-cases old.stores (p - 1) answered i after
    (subst (λ stores. slice_get stores i ≡ Some after) moves.is is))
  where
    at : ((i ≡ p - 1) × (after ≡ answered))
        ⊎ ((i ≡ p - 1 → ⊥) × (slice_get old.stores i ≡ Some after))
        → LeavesOf g (h.world.node (suc i)) after
    at (inl e) =
        let number : suc i ≡ p = omega (arith, e.0, positive) in
        let asked_is : before ≡ asked =
        one-store old.stores i was (subst (λ (k : ℕ). slice_get old.stores k ≡ Some asked)
        (sym e.0) moves.was) in
        subst (λ (q : ℕ). LeavesOf g (h.world.node q) after) (sym number)
        (subst (λ (s : S). LeavesOf g (h.world.node p) s) (sym e.1)
        (leaves (subst g.is_honest asked_is honest) (subst g.is_clean e.1 clean)))
    at (inr e) =
        (h.stores i after e.1).left (subst g.is_honest (one-store old.stores i was e.1) honest)

-- ---- a store was asked to keep a draft

-- for a node that holds the draft, a stop leaves its records, or these with the draft's record
pub leaves-draft : {S A : Type 0} (g : Ghosts S A) (node : Node) (after : S) (entry : Entry)
    → doubt node.state ≡ Some entry → g.leaves_only after (IsContents node.records (Some entry))
    → LeavesOf g node after
leaves-draft g node after entry held only =
    record {
      certain = node.records;
      doubtful = Some entry;
      only = only;
      may =
          λ records c. subst (λ (o : Option Entry). IsContents node.records o records) (sym held) c;
    }

stored-leaves : {S A : Type 0} (g : Ghosts S A) (old new : Clustered S) (p : ℕ) (draft : Placed)
    (reply : Reply) → held_draft old.group p ≡ Some draft → StoresDraft g old draft reply new
    → (h : IsStocked g old) → StopLeaves g h.world old.stores new.stores
stored-leaves g old new p draft reply there stores h =
    moved-leaves g old new draft.node stores.before stores.after held.positive stores.moves h leaves
  where
    held : HoldsIn h.world draft
    held = holds-in old.group h.world p draft h.shows there

    store : IsStoreOf g (h.world.node draft.node) stores.before
    store =
        store-before (IsStoreOf g) old draft.node stores.before
        (beside-stocked g old h) held.positive stores.moves.was

    leaves : g.is_honest stores.before → g.is_clean stores.after
        → LeavesOf g (h.world.node draft.node) stores.after
    leaves honest clean =
        leaves-draft g (h.world.node draft.node) stores.after draft.entry (ap doubt held.storing)
        (left-by-draft g (h.world.node draft.node)
        stores.before stores.after draft stores.stored.answer stores.stored.keeps store
        (ap is_down held.storing) honest clean)

held-leaves : {S A : Type 0} (g : Ghosts S A) (old new : Clustered S) (p : ℕ) (reply : Reply)
    (d : Option Placed) → held_draft old.group p ≡ d → StoresHeld g old p d reply new
    → (h : IsStocked g old) → StopLeaves g h.world old.stores new.stores
held-leaves g old new p reply None e alone h = alone-leaves g old new alone.1 h
held-leaves g old new p reply (Some draft) e stores h =
    stored-leaves g old new p draft reply e stores h

-- ---- a store was asked for its records

asked-leaves : {S A : Type 0} (g : Ghosts S A) (old new : Clustered S) (p : ℕ) (reply : Reply)
    → is_fallen old.group p ≡ true → AsksStore g old p reply new → (h : IsStocked g old)
    → StopLeaves g h.world old.stores new.stores
asked-leaves g old new p reply fallen asks h =
    moved-leaves g old new p asks.before asks.after positive asks.moves h
    (asked-left g (h.world.node p) asks.before asks.after asks.reads.gives.stop
    (store-before (IsStoreOf g) old p asks.before
    (beside-stocked g old h) positive asks.moves.was).contents)
  where
    positive : 0 < p
    positive =
        (node-bounds old.group.size.n p
        (and_parts _ (is_down (view_of old.group p).state) fallen).0).0

restarts-leaves : {S A : Type 0} (g : Ghosts S A) (old new : Clustered S) (p : ℕ) (reply : Reply)
    (b : Bool) → is_fallen old.group p ≡ b → RestartsBy g b old p reply new → (h : IsStocked g old)
    → StopLeaves g h.world old.stores new.stores
restarts-leaves g old new p reply true e asks h = asked-leaves g old new p reply e asks h
restarts-leaves g old new p reply false e alone h = alone-leaves g old new (alone []).1 h

-- ---- a command

-- a stop during a command leaves in each honest store what it may leave of the store's node
pub applies-leaves : {S A : Type 0} (g : Ghosts S A) (old new : Clustered S) (command : Command A)
    (reply : Reply) → Applies g old command reply new → (h : IsStocked g old)
    → StopLeaves g h.world old.stores new.stores
applies-leaves g old new (command.Store p) reply stores h =
    held-leaves g old new p reply (held_draft old.group p) refl stores h
applies-leaves g old new (command.Restart p) reply restarts h =
    restarts-leaves g old new p reply (is_fallen old.group p) refl restarts h
applies-leaves g old new command reply alone h = alone-leaves g old new alone.1 h

-- ---- a store in memory that was armed to fail

broke-leaves : {A : Type 0} (node : Node) (before after : Memory) (draft : Placed)
    (failure : Failure) → BreaksArmed failure before draft after
    → IsStoreOf (in_memory A) node before → is_down node.state ≡ false
    → doubt node.state ≡ Some draft.entry → LeavesOf (in_memory A) node after
broke-leaves {A} node before after draft failure breaks store up held =
    leaves-draft (in_memory A) node after draft.entry held only
  where
    left : Leaves (armed_with failure before) after draft.entry
    left =
        breaks-leaves (is_out_of_place before.doubtful (length before.certain + 1) draft.pos)
        failure (armed_with failure before) draft.entry after breaks

    certain : after.certain ≡ node.records
    certain = left.certain ∙ (store.up tt up).0

    only : (records : List Entry) → IsContents after.certain after.doubt records
        → (records ≡ node.records) ⊎ (records ≡ node.records ++ draft.entry ∷ [])
    only records c =
        ⊎_elim (λ none. inl (subst (λ (o : Option Entry). IsContents after.certain o records) none c
        ∙ certain))
        (λ some. ⊎_elim (λ e. inl (e ∙ certain))
        (λ e. inr (e ∙ ap (λ rs. rs ++ draft.entry ∷ []) certain))
        (subst (λ (o : Option Entry). IsContents after.certain o records) some c))
        (left.doubt (store.up tt up).1)

-- a stop during a failure on request leaves in each store what it may leave of the store's node
pub fails-leaves : {A : Type 0} (old new : Clustered Memory) (p : ℕ) (failure : Failure)
    (reply : Reply) → FailsHeld old p (held_draft old.group p) failure reply new
    → (h : IsStocked (in_memory A) old) → StopLeaves (in_memory A) h.world old.stores new.stores
fails-leaves {A} old new p failure reply fails h = at (held_draft old.group p) refl fails
  where
    at : (d : Option Placed) → held_draft old.group p ≡ d → FailsHeld old p d failure reply new
        → StopLeaves (in_memory A) h.world old.stores new.stores
    at None e alone = alone-leaves (in_memory A) old new alone.1 h
    at (Some draft) e held =
        let holds = holds-in old.group h.world p draft h.shows e in
        moved-leaves (in_memory A) old new draft.node held.before held.after holds.positive
        held.moves h
        (λ honest clean. broke-leaves {A = A}
        (h.world.node draft.node) held.before held.after draft failure held.breaks
        (store-before (IsStoreOf (in_memory A)) old draft.node held.before
        (beside-stocked (in_memory A) old h) holds.positive held.moves.was)
        (ap is_down holds.storing) (ap doubt holds.storing))
