-- Stores that last: a stop leaves in each, also after a failure shut it, only what it may leave of
-- its node. Commands preserve this.
use Rattle.urb_group.proofs.Common.{Applies, AsksStore, Bool, Clustered, Command, Down, Entry, Err}
use Rattle.urb_group.proofs.Common.{Ghosts, Gives, IsContents, IsKnown, IsSecured, IsStoreOf, Keeps}
use Rattle.urb_group.proofs.Common.{LeavesOf, List, MayLeave, Node, None, Ok, Option, Placed, Ready}
use Rattle.urb_group.proofs.Common.{RestartsBy, Result, Rises, Some, StoreFault, StoreMoves}
use Rattle.urb_group.proofs.Common.{StoresDraft, StoresHeld, [], and_parts, ap, arith, doubt, false}
use Rattle.urb_group.proofs.Common.{false≢true, held_draft, inl, inr, is_down, is_fallen, refl}
use Rattle.urb_group.proofs.Common.{slice_get, subst, suc, sym, true, view_of, ℕ, ⊎_elim, ◌++◌, ◌-◌}
use Rattle.urb_group.proofs.Common.{◌<◌, ◌∙◌, ◌∷◌, ◌≡◌, ◌⊎◌}
use Rattle.urb_node.specs.Replies.{Reply}
use Rattle.urb_group.proofs.stops.NodeStoreInvariant.{Beside, HoldsIn, Lasts, applies-beside}
use Rattle.urb_group.proofs.stops.NodeStoreInvariant.{holds-in, set-cases, store-before}
use Rattle.urb_group.proofs.calls.DraftsInCalls.{node-bounds}
use Rattle.urb_group.proofs.stops.StockedClusters.{left-by-draft, lost, rose, took, unread}
use Rattle.urb_group.proofs.stops.StockedSteps.{Stays, leaves-stay, store-stays}
use Rattle.urb_group.proofs.stops.StoppedCalls.{leaves-draft}
use Rattle.urb_group.specs.StoreContents.{IsLasting, WouldLeave}
use Rattle.urb_group.specs.declared.command.Command.TheVariants as command

-- the store is that of the node, and it lasts
abbrev pub IsLastingOf : {S A : Type 0} → Ghosts S A → Node → S → Type 0
IsLastingOf g node store = IsStoreOf g node store × IsLasting g node store

-- a secured cluster, stated with a world that its group shows
abbrev pub beside-secured : {S A : Type 0} (g : Ghosts S A) (cluster : Clustered S)
    → IsSecured g cluster → Beside (IsLastingOf g) cluster
beside-secured g cluster h = record {
  world = h.stocked.world;
  shows = h.stocked.shows;
  stores =
      λ i store got. (h.stocked.stores i store got, h.lasting i store got);
}

-- a cluster is secured if each store belongs to its node in a world that the group shows, and lasts
pub secured-beside : {S A : Type 0} (g : Ghosts S A) (cluster : Clustered S)
    → Beside (IsLastingOf g) cluster → IsSecured g cluster
secured-beside g cluster h =
    record {
      stocked = record {
        world = h.world;
        shows = h.shows;
        stores =
            λ i store got. (h.stores i store got).0;
      };
      lasting = λ i store got. (h.stores i store got).1;
    }

-- ---- one store

-- a node that stays is down if it was down
pub still-down : (old new : Node) → Stays old new → is_down old.state ≡ true → is_down new.state ≡ true
still-down old new s down = at (is_down new.state) refl
  where
    at : (b : Bool) → is_down new.state ≡ b → is_down new.state ≡ true
    at true e = e
    at false e = absurd (false≢true (sym (s.up e) ∙ down))

-- the store of a node that is up is honest
honest-up : {S A : Type 0} (g : Ghosts S A) (node : Node) (store : S) → IsLasting g node store
    → is_down node.state ≡ false → g.is_clean store → g.is_honest store
honest-up g node store h up clean =
    ⊎_elim (λ honest. honest) (λ shut. absurd (false≢true (sym up ∙ shut.1))) (h.known clean)

-- a store that lasts is honest or shut, if its storage has returned what was written
pub lasting-known : {S A : Type 0} (g : Ghosts S A) (node : Node) (store : S)
    → IsLasting g node store → IsKnown g store
lasting-known g node store h clean =
    ⊎_elim (λ honest. inl honest) (λ shut. inr shut.0) (h.known clean)

-- a store that gave its records is honest
pub read-honest : {S A : Type 0} (g : Ghosts S A) (before after : S) (image : List Entry)
    → Gives g before (Ok image) after → IsKnown g before → g.is_clean after → g.is_honest after
read-honest g before after image gives known clean =
    ⊎_elim (λ honest. gives.trust.alive honest clean) (λ shut. absurd (gives.refuses shut clean).0)
    (known (gives.trust.clean clean))

-- a store that is honest if it is clean, lasts
pub lasting-honest : {S A : Type 0} (g : Ghosts S A) (node : Node) (store : S)
    → IsStoreOf g node store → (g.is_clean store → g.is_honest store) → IsLasting g node store
lasting-honest g node store h honest =
    record { left = λ clean. h.left (honest clean); known = λ clean. inl (honest clean) }

-- if the store was asked for its records, a stop leaves no more than before
pub asked-still : {S A : Type 0} (g : Ghosts S A) (node : Node) (before after : S)
    (answer : Result (List Entry) StoreFault) → Gives g before answer after
    → IsLasting g node before → g.is_clean after → LeavesOf g node after
asked-still g node before after answer gives h clean =
    record {
      certain = was.certain;
      doubtful = was.doubtful;
      only =
          (gives.lasts clean (⊎_elim (λ honest. inl honest) (λ shut. inr shut.0)
          (h.known (gives.trust.clean clean)))).contents was.certain was.doubtful was.only;
      may = was.may;
    }
  where
    was : LeavesOf g node before
    was = h.left (gives.trust.clean clean)

lasting-stays : {S A : Type 0} (g : Ghosts S A) (old new : Node) (store : S) → Stays old new
    → IsLastingOf g old store → IsLastingOf g new store
lasting-stays g old new store s h = (
  store-stays g old new store s h.0,
  record {
    left = λ clean. leaves-stay g old new store s (h.1.left clean);
    known =
        λ clean. ⊎_elim (λ honest. inl honest) (λ shut. inr (shut.0, still-down old new s shut.1))
        (h.1.known clean);
  },
)

lasting-took : {S A : Type 0} (g : Ghosts S A) (node new : Node) (before after : S) (draft : Placed)
    → Keeps g before draft (Ok tt) after → IsLastingOf g node before → is_down node.state ≡ false
    → new.records ≡ node.records ++ draft.entry ∷ [] → new.state ≡ Ready → IsLastingOf g new after
lasting-took g node new before after draft keeps h up records ready =
    let store = took g node new before after draft keeps h.0 up records ready in (
      store,
      lasting-honest g new after store
          (λ clean. keeps.trust.alive
          (honest-up g node before h.1 up (keeps.trust.clean clean)) clean),
    )

lasting-lost : {S A : Type 0} (g : Ghosts S A) (node new : Node) (before after : S) (draft : Placed)
    (fault : StoreFault) → Keeps g before draft (Err fault) after → IsLastingOf g node before
    → is_down node.state ≡ false
    → new.records ≡ node.records → new.state ≡ Down (Some draft.entry) → IsLastingOf g new after
lasting-lost g node new before after draft fault keeps h up records down = (
  lost g node new before after draft fault keeps h.0 up records down,
  record {
    left = λ clean. leaves-draft g new after draft.entry (ap doubt down) (only clean);
    known =
        λ clean. ⊎_elim (λ honest. inl honest) (λ shut. inr (shut, ap is_down down))
        (keeps.trust.shut (was clean) clean);
  },
)
  where
    was : g.is_clean after → g.is_honest before
    was clean = honest-up g node before h.1 up (keeps.trust.clean clean)

    only : g.is_clean after → g.leaves_only after (IsContents new.records (Some draft.entry))
    only clean =
        subst (λ (xs : List Entry). g.leaves_only after (IsContents xs (Some draft.entry)))
        (sym records) (left-by-draft g node before after draft (Err fault) keeps h.0 up
        (was clean) clean)

lasting-rose : {S A : Type 0} (g : Ghosts S A) (node new : Node) (before after : S)
    (image : List Entry) → Gives g before (Ok image) after → (MayLeave node image → Rises image new)
    → IsLastingOf g node before → IsLastingOf g new after
lasting-rose g node new before after image gives rises h =
    let store = rose g node new before after image gives rises h.0 in (
      store,
      lasting-honest g new after store
          (read-honest g before after image gives (lasting-known g node before h.1)),
    )

lasting-unread : {S A : Type 0} (g : Ghosts S A) (node : Node) (before after : S)
    (fault : StoreFault) → Gives g before (Err fault) after → is_down node.state ≡ true
    → IsLastingOf g node before → IsLastingOf g node after
lasting-unread g node before after fault gives down h = (
  unread g node before after fault gives h.0,
  record {
    left = asked-still g node before after (Err fault) gives h.1;
    known = λ clean.
        ⊎_elim (λ honest. ⊎_elim (λ still. inl still) (λ shut. inr (shut, down))
        (gives.trust.shut honest clean)) (λ shut. inr ((gives.refuses shut.0 clean).1, down))
        (h.1.known (gives.trust.clean clean));
  },
)

-- ---- a command

secured-lasts : {S A : Type 0} (g : Ghosts S A) → Lasts g (IsLastingOf g)
secured-lasts g = record {
  stays = lasting-stays g;
  took = lasting-took g;
  lost =
      lasting-lost g;
  rose = lasting-rose g;
  unread = lasting-unread g;
}

-- a secured cluster is secured after any command
pub applies-secured : {S A : Type 0} (g : Ghosts S A) (old new : Clustered S) (command : Command A)
    (reply : Reply) → Applies g old command reply new → IsSecured g old → IsSecured g new
applies-secured g old new command reply h secured =
    secured-beside g new (applies-beside g (IsLastingOf g) (secured-lasts g) old new command reply h
    (beside-secured g old secured))

-- ---- a stop inside a command

module _ {S A : Type 0} (g : Ghosts S A) (old new : Clustered S) (h : IsSecured g old) where
  lasting-before : (p : ℕ) (before : S) → 0 < p → slice_get old.stores (p - 1) ≡ Some before
      → IsLastingOf g (h.stocked.world.node p) before
  lasting-before p before positive was =
      store-before (IsLastingOf g) old p before (beside-secured g old h) positive was

  -- no store was asked
  alone-left : new.stores ≡ old.stores → WouldLeave g h.stocked.world new.stores
  alone-left same i store got =
      (h.lasting i store (subst (λ stores. slice_get stores i ≡ Some store) same got)).left

  -- one store was asked, and a stop inside the call leaves this of it
  moved-left : (p : ℕ) (asked answered : S) → 0 < p
      → StoreMoves old.stores p asked answered new.stores
      → (g.is_clean answered → LeavesOf g (h.stocked.world.node p) answered)
      → WouldLeave g h.stocked.world new.stores
  moved-left p asked answered positive moves leaves i store got clean =
      at (set-cases old.stores (p - 1) answered i store
      (subst (λ stores. slice_get stores i ≡ Some store) moves.is got))
    where
      at : ((i ≡ p - 1) × (store ≡ answered))
          ⊎ ((i ≡ p - 1 → ⊥) × (slice_get old.stores i ≡ Some store))
          → LeavesOf g (h.stocked.world.node (suc i)) store
      at (inl e) =
          let number : suc i ≡ p = omega (arith, e.0, positive) in
          subst (λ (q : ℕ). LeavesOf g (h.stocked.world.node q) store) (sym number)
          (subst (λ (s : S). LeavesOf g (h.stocked.world.node p) s) (sym e.1)
          (leaves (subst g.is_clean e.1 clean)))
      at (inr e) = (h.lasting i store e.1).left clean

  stored-left : (p : ℕ) (draft : Placed) (reply : Reply) → held_draft old.group p ≡ Some draft
      → StoresDraft g old draft reply new → WouldLeave g h.stocked.world new.stores
  stored-left p draft reply there stores =
      moved-left draft.node stores.before stores.after held.positive stores.moves leaves
    where
      held : HoldsIn h.stocked.world draft
      held = holds-in old.group h.stocked.world p draft h.stocked.shows there

      before : IsLastingOf g (h.stocked.world.node draft.node) stores.before
      before = lasting-before draft.node stores.before held.positive stores.moves.was

      leaves : g.is_clean stores.after → LeavesOf g (h.stocked.world.node draft.node) stores.after
      leaves clean =
          let up = ap is_down held.storing in
          let keeps = stores.stored.keeps in
          leaves-draft g (h.stocked.world.node draft.node) stores.after draft.entry
          (ap doubt held.storing)
          (left-by-draft g (h.stocked.world.node draft.node)
          stores.before stores.after draft stores.stored.answer keeps before.0 up
          (honest-up g (h.stocked.world.node draft.node) stores.before before.1 up
          (keeps.trust.clean clean)) clean)

  held-left : (p : ℕ) (reply : Reply) (d : Option Placed) → held_draft old.group p ≡ d
      → StoresHeld g old p d reply new → WouldLeave g h.stocked.world new.stores
  held-left p reply None e alone = alone-left alone.1
  held-left p reply (Some draft) e stores = stored-left p draft reply e stores

  asked-would : (p : ℕ) (reply : Reply) → is_fallen old.group p ≡ true → AsksStore g old p reply new
      → WouldLeave g h.stocked.world new.stores
  asked-would p reply fallen asks =
      moved-left p asks.before asks.after positive asks.moves
      (asked-still g (h.stocked.world.node p)
      asks.before asks.after asks.reads.answer asks.reads.gives
      (lasting-before p asks.before positive asks.moves.was).1)
    where
      positive : 0 < p
      positive =
          (node-bounds old.group.size.n p
          (and_parts _ (is_down (view_of old.group p).state) fallen).0).0

  restarts-left : (p : ℕ) (reply : Reply) (b : Bool) → is_fallen old.group p ≡ b
      → RestartsBy g b old p reply new → WouldLeave g h.stocked.world new.stores
  restarts-left p reply true e asks = asked-would p reply e asks
  restarts-left p reply false e alone = alone-left (alone []).1

  -- after a command, a stop leaves in each clean store what it may leave of the node before the
  -- command
  pub applies-left : (command : Command A) (reply : Reply) → Applies g old command reply new
      → WouldLeave g h.stocked.world new.stores
  applies-left (command.Store p) reply stores =
      held-left p reply (held_draft old.group p) refl stores
  applies-left (command.Restart p) reply restarts =
      restarts-left p reply (is_fallen old.group p) refl restarts
  applies-left command reply alone = alone-left alone.1
