-- The store of a node that is up is in place for the draft that the node holds, if it is honest.
use Rattle.urb_group.proofs.Common.{Applies, Bool, Breaks, Clustered, Command, Err, FailsHeld}
use Rattle.urb_group.proofs.Common.{Failure, Ghosts, GroupView, IsLimits, IsPlaced, IsSound}
use Rattle.urb_group.proofs.Common.{IsStocked, IsStoreOf, Keeps, Node, None, Ok, Option, Placed}
use Rattle.urb_group.proofs.Common.{Result, Shows, Some, StoreFault, StoresHeld, World, ap, arith}
use Rattle.urb_group.proofs.Common.{armed_with, eq-eqb, false, false≢true, held_draft, in_memory}
use Rattle.urb_group.proofs.Common.{inl, inr, is_down, is_out_of_place, length, ne_eqb, not, refl}
use Rattle.urb_group.proofs.Common.{subst, suc, sym, ℕ, ◌+◌, ◌<◌, ◌==◌, ◌||◌, ◌∙◌, ◌≡◌, ◌≤◌}
use Rattle.urb_group.proofs.stops.NodeStoreInvariant.{HoldsIn, holds-in, store-before}
use Rattle.urb_group.proofs.stops.RecordCounts.{few-records}
use Rattle.urb_group.proofs.stops.StockedClusters.{beside-stocked}
use Rattle.urb_group.proofs.calls.StoreAnswers.{held-as}
use Rattle.urb_group.specs.InPlaceDrafts.{AppliesInPlace, FailsInPlace, IsInPlace, StoresInPlace}
use Rattle.urb_node.specs.Replies.{Reply}
use Rattle.urb_stable.specs.MemoryStores.{Memory}
use Rattle.urb_group.specs.declared.command.Command.TheVariants as command
use Rattle.urb_stable.specs.declared.stable.StoreFault.TheVariants as fault

-- ---- one store

-- no record is in doubt, the position is the next one, and the list may grow
in-place : (doubtful : Bool) (next pos : ℕ) → doubtful ≡ false → pos ≡ next → next < 4294967295
    → is_out_of_place doubtful next pos ≡ false
in-place doubtful next pos sure same low =
    ap (λ (b : Bool). b || (not (pos == next) || (next == 4294967295))) sure
    ∙ (ap (λ (b : Bool). not b || (next == 4294967295)) (eq-eqb pos next same)
    ∙ ne_eqb next 4294967295 (λ e. omega (arith, e, low)))

-- what a store then answers
placed-answer : (next : ℕ) (answer : Result (Unit {0}) StoreFault) → IsPlaced false next answer
    → IsInPlace answer
placed-answer next (Ok done) h = tt
placed-answer next (Err fault.NoMemory) h = inl refl
placed-answer next (Err fault.Device) h = inr refl
placed-answer next (Err (fault.Place at)) h = absurd (false≢true (sym h.0))
placed-answer next (Err (fault.BadRow at)) h = absurd (false≢true (sym h.1))

-- the store of a node that is up is in place for this position
sure-place : {S A : Type 0} (g : Ghosts S A) (node : Node) (store : S) (pos : ℕ)
    → IsStoreOf g node store → is_down node.state ≡ false → pos ≡ suc (length node.records)
    → length node.records ≤ 16000016 → g.is_honest store
    → is_out_of_place (g.is_doubtful store) (length (g.certain store) + 1) pos ≡ false
sure-place g node store pos h up position few honest =
    let count : length (g.certain store) ≡ length node.records = ap length (h.up honest up).0 in
    in-place (g.is_doubtful store) (length (g.certain store) + 1) pos (h.sure up)
    (omega (arith, count, position)) (omega (arith, count, few))

-- an honest store of a node that is up keeps the node's draft, or fails because of memory or its
-- device
pub node-in-place : {S A : Type 0} (g : Ghosts S A) (node : Node) (before after : S)
    (draft : Placed) (answer : Result (Unit {0}) StoreFault) → Keeps g before draft answer after
    → IsStoreOf g node before
    → is_down node.state ≡ false → draft.pos ≡ suc (length node.records)
    → length node.records ≤ 16000016 → g.is_honest before → IsInPlace answer
node-in-place g node before after draft answer keeps store up position few honest =
    placed-answer (g.place before) answer
    (subst (λ (out : Bool). IsPlaced out (g.place before) answer)
    (ap (λ (place : ℕ). is_out_of_place (g.is_doubtful before) place draft.pos)
    (keeps.counted honest) ∙ sure-place g node before draft.pos store up position few honest)
    keeps.placed)

-- the store of a node that holds a draft
pub held-in-place : {S A : Type 0} (g : Ghosts S A) (group : GroupView) (w : World) (p : ℕ)
    (draft : Placed) (store : S) → IsSound group → IsLimits group.size → Shows group w
    → held_draft group p ≡ Some draft
    → IsStoreOf g (w.node p) store → g.is_honest store
    → is_out_of_place (g.is_doubtful store) (length (g.certain store) + 1) draft.pos ≡ false
held-in-place g group w p draft store sound limits shows there h honest =
    sure-place g (w.node draft.node) store draft.pos
    (subst (λ (q : ℕ). IsStoreOf g (w.node q) store) (sym (held-as group p draft there).node) h)
    (ap is_down held.storing) held.position
    (few-records group w draft.node sound limits shows) honest
  where
    held : HoldsIn w draft
    held = holds-in group w p draft shows there

-- ---- a command

module _ {S A : Type 0} (g : Ghosts S A) (old new : Clustered S) (sound : IsSound old.group)
    (limits : IsLimits old.group.size) (h : IsStocked g old) where
  stored-in-place : (p : ℕ) (reply : Reply) (d : Option Placed) → held_draft old.group p ≡ d
      → StoresHeld g old p d reply new → StoresInPlace g old d reply new
  stored-in-place p reply None e alone = tt
  stored-in-place p reply (Some draft) e stores = (
    stores,
    node-in-place g (h.world.node draft.node)
        stores.before stores.after draft stores.stored.answer stores.stored.keeps
        (store-before (IsStoreOf g) old draft.node stores.before
        (beside-stocked g old h) held.positive stores.moves.was)
        (ap is_down held.storing) held.position
        (few-records old.group h.world draft.node sound limits h.shows),
  )
    where
      held : HoldsIn h.world draft
      held = holds-in old.group h.world p draft h.shows e

  -- a draft that a command gives to an honest store of a stocked cluster is in place
  pub applies-in-place : (command : Command A) (reply : Reply) → Applies g old command reply new
      → AppliesInPlace g old command reply new
  applies-in-place (command.Store p) reply stores =
      stored-in-place p reply (held_draft old.group p) refl stores
  applies-in-place command reply h = tt

-- ---- a failure that is asked for

-- a held draft whose store in memory is armed to fail is in place
pub fails-in-place : {A : Type 0} (old new : Clustered Memory) → IsSound old.group
    → IsLimits old.group.size → IsStocked (in_memory A) old
    → (p : ℕ) (failure : Failure) (reply : Reply)
    → FailsHeld old p (held_draft old.group p) failure reply new
    → FailsInPlace old (held_draft old.group p) failure reply new
fails-in-place {A} old new sound limits h p failure reply fails =
    at (held_draft old.group p) refl fails
  where
    at : (d : Option Placed) → held_draft old.group p ≡ d → FailsHeld old p d failure reply new
        → FailsInPlace old d failure reply new
    at None e alone = tt
    at (Some draft) e fell = (
      fell,
      subst (λ (out : Bool).
          Breaks out failure (armed_with failure fell.before) draft.entry fell.after)
          sure fell.breaks,
    )
      where
        held : HoldsIn h.world draft
        held = holds-in old.group h.world p draft h.shows e

        sure : is_out_of_place fell.before.doubtful (length fell.before.certain + 1) draft.pos
            ≡ false
        sure =
            sure-place (in_memory A) (h.world.node draft.node) fell.before draft.pos
            (store-before (IsStoreOf (in_memory A)) old draft.node fell.before
            (beside-stocked (in_memory A) old h) held.positive fell.moves.was)
            (ap is_down held.storing) held.position
            (few-records old.group h.world draft.node sound limits h.shows) tt
