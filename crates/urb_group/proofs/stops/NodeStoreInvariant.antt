-- A world that a cluster's group shows, and what a command preserves: a property of each of the
-- world's nodes and that node's store.
use Rattle.urb_group.proofs.Common.{Applies, AsksStore, Bool, Cause, Clustered, Command, Commit}
use Rattle.urb_group.proofs.Common.{Crash, Down, Entry, Err, Event, Fail, Ghosts, Gives, GroupView}
use Rattle.urb_group.proofs.Common.{Keeps, Limits, List, MayLeave, Node, None, Ok, Option, Placed}
use Rattle.urb_group.proofs.Common.{Reacts, Ready, Refused, Restart, RestartsBy, Result, Returns}
use Rattle.urb_group.proofs.Common.{Rises, Shows, Some, Steps, StoreFault, StoreMoves, StoresDraft}
use Rattle.urb_group.proofs.Common.{StoresHeld, Storing, Tick, World, [], and_parts, ap, arith}
use Rattle.urb_group.proofs.Common.{commit-node, false, false≢true, held_draft, inl, inr, is_down}
use Rattle.urb_group.proofs.Common.{is_fallen, is_node, length, ne_eqb, refl, slice_get, slice_set}
use Rattle.urb_group.proofs.Common.{step-elsewhere, stored_as, subst, suc, sym, true, view_of, zero}
use Rattle.urb_group.proofs.Common.{ℕ, ⊎_elim, ◌&&◌, ◌++◌, ◌-◌, ◌<◌, ◌∙◌, ◌∷◌, ◌≡◌, ◌≢◌, ◌⊎◌}
use Rattle.urb_node.specs.Part.{State}
use Rattle.urb_node.specs.Replies.{Reply}
use Rattle.urb_world.proofs.steps.DraftsInSteps.{event_node}
use Rattle.urb_group.proofs.calls.DraftsInCalls.{node-bounds}
use Rattle.urb_world.proofs.stops.StockedNodes.{fail-node, restart-node, unfallen-stays}
use Rattle.urb_group.proofs.stops.StockedSteps.{IsQuiet, Stays, quiet-stays}
use Rattle.urb_group.proofs.calls.StoreAnswers.{IsHeldAs, held-as}
use Rattle.urb_group.specs.ClusterCalls.{Alone}
use Rattle.urb_world.specs.Step.{step}
use Rattle.urb_group.specs.declared.command.Command.TheVariants as command

pub record Beside {S : Type 0} (P : Node → S → Type 0) (cluster : Clustered S) : Type 0 where
  -- a world
  pub world : World
  -- the group shows it
  pub shows : Shows cluster.group world
  -- each store has the property with its node of that world
  pub stores : (i : ℕ) (store : S) → slice_get cluster.stores i ≡ Some store
      → P (world.node (suc i)) store

-- A property of a node and its store that lasts whatever happens, if the store meets its contract.
-- The cases: the node stays; the store took its draft, or didn't; the store gave its records, or
-- didn't.
pub record Lasts {S A : Type 0} (g : Ghosts S A) (P : Node → S → Type 0) : Type 0 where
  -- it lasts if the node stores nothing and doesn't come up, and the store isn't asked
  pub stays : (old new : Node) (store : S) → Stays old new → P old store → P new store
  -- it lasts if the store keeps the draft of a node that is up, and the node becomes ready
  pub took : (node new : Node) (before after : S) (draft : Placed)
      → Keeps g before draft (Ok tt) after → P node before → is_down node.state ≡ false
      → new.records ≡ node.records ++ draft.entry ∷ [] → new.state ≡ Ready → P new after
  -- it lasts if the store fails to keep the draft of a node, and the node goes down
  pub lost : (node new : Node) (before after : S) (draft : Placed) (fault : StoreFault)
      → Keeps g before draft (Err fault) after → P node before → is_down node.state ≡ false
      → new.records ≡ node.records → new.state ≡ Down (Some draft.entry) → P new after
  -- it lasts if the store gives its records, and the node rises with them
  pub rose : (node new : Node) (before after : S) (image : List Entry)
      → Gives g before (Ok image) after → (MayLeave node image → Rises image new) → P node before
      → P new after
  -- it lasts if the store gives a fault in place of its records, and the node stays down
  pub unread : (node : Node) (before after : S) (fault : StoreFault)
      → Gives g before (Err fault) after → is_down node.state ≡ true → P node before → P node after

-- ---- an event happened, or nothing did

reacts-either : (old new : GroupView) (event : Event) (reply : Reply) → Reacts old event reply new
    → Steps old event (λ told. told ≡ reply) new ⊎ (new ≡ old)
reacts-either old new event (Refused r) h = inr h.1
reacts-either old new event reply h = inl h

-- ---- one store was asked

-- one place has one store
pub one-store : {S : Type 0} {a b : S} (stores : List S) (i : ℕ) → slice_get stores i ≡ Some a
    → slice_get stores i ≡ Some b → a ≡ b
one-store stores i e f = cc

-- the item at a place of a list in which one place was set
pub set-cases : {X : Type 0} (xs : List X) (j : ℕ) (y : X) (i : ℕ) (x : X)
    → slice_get (slice_set xs j y) i ≡ Some x
    → ((i ≡ j) × (x ≡ y)) ⊎ ((i ≢ j) × (slice_get xs i ≡ Some x))
set-cases [] j y i x e = cc
set-cases (z ∷ xs) zero y zero x e = (let f : y ≡ x = cc in inl (refl, sym f))
set-cases (z ∷ xs) zero y (suc i) x e = inr (λ f. absurd (omega (arith, f)), e)
set-cases (z ∷ xs) (suc j) y zero x e = inr (λ f. absurd (omega (arith, f)), e)
set-cases (z ∷ xs) (suc j) y (suc i) x e =
    ⊎_elim (λ h. inl (ap suc h.0, h.1)) (λ h. inr (λ f. h.0 (omega (arith, f)), h.1))
    (set-cases xs j y i x e)

-- a node of this world holds the draft
pub record HoldsIn (w : World) (draft : Placed) : Type 0 where
  -- the packet that caused the draft, if there is one
  pub cause : Option Cause
  -- the draft's node is not 0
  pub positive : 0 < draft.node
  -- the group has this node
  pub there : is_node w.size.n draft.node ≡ true
  -- the node holds the draft's record
  pub storing : (w.node draft.node).state ≡ Storing draft.entry cause
  -- the draft is for the node's next position
  pub position : draft.pos ≡ suc (length (w.node draft.node).records)

-- a draft that a group holds is held by its node in each world that the group shows
pub holds-in : (group : GroupView) (w : World) (p : ℕ) (draft : Placed) → Shows group w
    → held_draft group p ≡ Some draft → HoldsIn w draft
holds-in group w p draft shows there =
    record {
      cause = held.cause;
      positive = subst (λ (q : ℕ). 0 < q) (sym held.node) (node-bounds group.size.n p held.there).0;
      there =
          subst (λ (q : ℕ). is_node w.size.n q ≡ true) (sym held.node)
          (subst (λ (l : Limits). is_node l.n p ≡ true) shows.size held.there);
      storing =
          subst (λ (q : ℕ). (w.node q).state ≡ Storing draft.entry held.cause) (sym held.node)
          (sym (shows.nodes p).state ∙ held.state);
      position =
          subst (λ (q : ℕ). draft.pos ≡ suc (length (w.node q).records)) (sym held.node)
          (held.position ∙ ap suc (shows.nodes p).count);
    }
  where
    held : IsHeldAs group p draft
    held = held-as group p draft there

-- a node that is down holds a doubtful record or none
pub down-in : (s : State) → is_down s ≡ true → (o : Option Entry) × (s ≡ Down o)
down-in Ready e = absurd (false≢true e)
down-in (Storing entry cause) e = absurd (false≢true e)
down-in (Down o) e = (o, refl)

module _ {S : Type 0} (P : Node → S → Type 0) where
  -- nothing happened
  stays-beside : (old new : Clustered S) → new.group ≡ old.group → new.stores ≡ old.stores
      → Beside P old → Beside P new
  stays-beside old new e f h =
      record {
        world = h.world;
        shows = subst (λ (group : GroupView). Shows group h.world) (sym e) h.shows;
        stores =
            λ i store got. h.stores i store
            (subst (λ stores. slice_get stores i ≡ Some store) f got);
      }

  -- the event's node has a new store, and the others stay
  moved-beside : (old new : Clustered S) (p : ℕ) (event : Event) (before after : S)
      → event_node event ≡ p → 0 < p → StoreMoves old.stores p before after new.stores
      → (h : Beside P old) → Shows new.group (step h.world event).1
      → P ((step h.world event).1.node p) after → Beside P new
  moved-beside old new p event before after here positive moves h shows store =
      record {
        world = (step h.world event).1;
        shows = shows;
        stores =
            λ i s got. at i s (set-cases old.stores (p - 1) after i s
            (subst (λ stores. slice_get stores i ≡ Some s) moves.is got));
      }
    where
      at : (i : ℕ) (s : _) → ((i ≡ p - 1) × (s ≡ after))
          ⊎ ((i ≢ p - 1) × (slice_get old.stores i ≡ Some s))
          → P ((step h.world event).1.node (suc i)) s
      at i s (inl e) =
          let number : suc i ≡ p = omega (arith, e.0, positive) in
          subst (λ (q : ℕ). P ((step h.world event).1.node q) s) (sym number)
          (subst (λ t. P ((step h.world event).1.node p) t) (sym e.1) store)
      at i s (inr e) =
          let apart : suc i ≢ event_node event = λ f. e.0 (omega (arith, f, here)) in
          subst (λ (node : Node). P node s)
          (sym (step-elsewhere h.world event (suc i) (ne_eqb (suc i) (event_node event) apart)))
          (h.stores i s e.1)

  -- the same world, if the event was refused
  same-beside : (old new : Clustered S) (p : ℕ) (before after : S) → 0 < p
      → StoreMoves old.stores p before after new.stores → new.group ≡ old.group
      → (h : Beside P old) → P (h.world.node p) after → Beside P new
  same-beside old new p before after positive moves e h store =
      record {
        world = h.world;
        shows = subst (λ (group : GroupView). Shows group h.world) (sym e) h.shows;
        stores =
            λ i s got. at i s (set-cases old.stores (p - 1) after i s
            (subst (λ stores. slice_get stores i ≡ Some s) moves.is got));
      }
    where
      at : (i : ℕ) (s : _) → ((i ≡ p - 1) × (s ≡ after))
          ⊎ ((i ≢ p - 1) × (slice_get old.stores i ≡ Some s)) → P (h.world.node (suc i)) s
      at i s (inl e) =
          let number : suc i ≡ p = omega (arith, e.0, positive) in
          subst (λ (q : ℕ). P (h.world.node q) s) (sym number)
          (subst (λ t. P (h.world.node p) t) (sym e.1) store)
      at i s (inr e) = h.stores i s e.1

  -- the store of node p before the call
  pub store-before : (old : Clustered S) (p : ℕ) (before : S) (h : Beside P old) → 0 < p
      → slice_get old.stores (p - 1) ≡ Some before → P (h.world.node p) before
  store-before old p before h positive was =
      let number : suc (p - 1) ≡ p = omega (arith, positive) in
      subst (λ (q : ℕ). P (h.world.node q) before) number (h.stores (p - 1) before was)

  -- the node of a draft went down, whatever its store then holds
  pub fell-beside : (old new : Clustered S) (p : ℕ) (draft : Placed) (reply : Reply)
      (before after : S) → held_draft old.group p ≡ Some draft
      → StoreMoves old.stores draft.node before after new.stores
      → Steps old.group (Fail draft.node) (λ told. told ≡ reply) new.group
      → ((node fell : Node) → P node before → is_down node.state ≡ false
      → fell.records ≡ node.records → fell.state ≡ Down (Some draft.entry) → P fell after)
      → Beside P old → Beside P new
  fell-beside old new p draft reply before after there moves event left h =
      let held = holds-in old.group h.world p draft h.shows there in
      let node = fail-node h.world draft.node draft.entry held.cause held.there held.storing in
      moved-beside old new draft.node (Fail draft.node) before after refl held.positive moves h
      (event h.world h.shows).shows
      (left (h.world.node draft.node) ((step h.world (Fail draft.node)).1.node draft.node)
      (store-before old draft.node before h held.positive moves.was)
      (ap is_down held.storing) node.0 node.1)

module _ {S A : Type 0} (g : Ghosts S A) (P : Node → S → Type 0) (rules : Lasts g P) where
  -- an event that adds no record to a list, and for which no store was asked
  pub quiet-beside : (old new : Clustered S) (event : Event) (reply : Reply) → IsQuiet event
      → Alone old event reply new → Beside P old → Beside P new
  quiet-beside old new event reply quiet alone h =
      ⊎_elim happened (λ same. stays-beside P old new same alone.1 h)
      (reacts-either old.group new.group event reply alone.0)
    where
      happened : Steps old.group event (λ told. told ≡ reply) new.group → Beside P new
      happened steps =
          record {
            world = (step h.world event).1;
            shows = (steps h.world h.shows).shows;
            stores =
                λ i store got. rules.stays (h.world.node (suc i))
                ((step h.world event).1.node (suc i)) store
                (quiet-stays h.world event quiet (suc i))
                (h.stores i store (subst (λ stores. slice_get stores i ≡ Some store) alone.1 got));
          }

  stored-beside : (old new : Clustered S) (p : ℕ) (draft : Placed) (reply : Reply)
      → held_draft old.group p ≡ Some draft → StoresDraft g old draft reply new → Beside P old
      → Beside P new
  stored-beside old new p draft reply there stores h =
      at stores.stored.answer stores.stored.keeps stores.stored.event
    where
      held : HoldsIn h.world draft
      held = holds-in old.group h.world p draft h.shows there

      at : (answer : Result (Unit {0}) StoreFault) → Keeps g stores.before draft answer stores.after
          → Steps old.group (stored_as draft answer) (λ told. told ≡ reply) new.group → Beside P new
      at (Ok tt) keeps event =
          let node =
          commit-node h.world draft.node draft.pos draft.entry held.cause held.there
          held.storing held.position in
          moved-beside P old new draft.node
          (Commit draft.node draft.pos draft.entry)
          stores.before stores.after refl held.positive stores.moves h
          (event h.world h.shows).shows
          (rules.took (h.world.node draft.node)
          ((step h.world (Commit draft.node draft.pos draft.entry)).1.node draft.node)
          stores.before stores.after draft keeps
          (store-before P old draft.node stores.before h held.positive stores.moves.was)
          (ap is_down held.storing) node.0 node.1)
      at (Err fault) keeps event =
          fell-beside P old new p draft reply stores.before stores.after there stores.moves event
          (λ node fell store up records down.
          rules.lost node fell stores.before stores.after draft fault keeps store up records
          down) h

  held-beside : (old new : Clustered S) (p : ℕ) (reply : Reply) (d : Option Placed)
      → held_draft old.group p ≡ d → StoresHeld g old p d reply new → Beside P old → Beside P new
  held-beside old new p reply None e alone h = quiet-beside old new (Fail p) reply tt alone h
  held-beside old new p reply (Some draft) e stores h =
      stored-beside old new p draft reply e stores h

  -- ---- a store was asked for its records

  asked-beside : (old new : Clustered S) (p : ℕ) (reply : Reply) → is_fallen old.group p ≡ true
      → AsksStore g old p reply new → Beside P old → Beside P new
  asked-beside old new p reply fallen asks h =
      at asks.reads.answer asks.reads.gives asks.reads.returns
    where
      parts : (is_node old.group.size.n p ≡ true) × (is_down (view_of old.group p).state ≡ true)
      parts = and_parts (is_node old.group.size.n p) (is_down (view_of old.group p).state) fallen

      positive : 0 < p
      positive = (node-bounds old.group.size.n p parts.0).0

      in_world : is_node h.world.size.n p ≡ true
      in_world = subst (λ (l : Limits). is_node l.n p ≡ true) h.shows.size parts.0

      fell : is_down (h.world.node p).state ≡ true
      fell = ap is_down (sym (h.shows.nodes p).state) ∙ parts.1

      down : (o : Option Entry) × ((h.world.node p).state ≡ Down o)
      down = down-in (h.world.node p).state fell

      store : P (h.world.node p) asks.before
      store = store-before P old p asks.before h positive asks.moves.was

      at : (answer : Result (List Entry) StoreFault) → Gives g asks.before answer asks.after
          → Returns old.group p answer reply new.group → Beside P new
      at (Ok image) gives reacts =
          ⊎_elim
          (λ (steps : Steps old.group (Restart p image) (λ told. told ≡ reply) new.group).
          moved-beside P old new p (Restart p image)
          asks.before asks.after refl positive asks.moves h (steps h.world h.shows).shows
          (rules.rose (h.world.node p) ((step h.world (Restart p image)).1.node p)
          asks.before asks.after image gives
          (restart-node h.world p image down.0 in_world down.1) store))
          (λ (same : new.group ≡ old.group).
          same-beside P old new p asks.before asks.after positive asks.moves same h
          (rules.rose (h.world.node p) (h.world.node p) asks.before asks.after image gives
          (λ may. record { may = may; up = λ e. absurd (false≢true (sym e ∙ fell)) }) store))
          (reacts-either old.group new.group (Restart p image) reply reacts)
      at (Err fault) gives returns =
          same-beside P old new p asks.before asks.after positive asks.moves returns.1 h
          (rules.unread (h.world.node p) asks.before asks.after fault gives fell store)

  restarts-beside : (old new : Clustered S) (p : ℕ) (reply : Reply) (b : Bool)
      → is_fallen old.group p ≡ b → RestartsBy g b old p reply new → Beside P old → Beside P new
  restarts-beside old new p reply true e asks h = asked-beside old new p reply e asks h
  restarts-beside old new p reply false e alone h =
      ⊎_elim happened (λ same. stays-beside P old new same (alone []).1 h)
      (reacts-either old.group new.group (Restart p []) reply (alone []).0)
    where
      unfallen : (is_node h.world.size.n p && is_down (h.world.node p).state) ≡ false
      unfallen =
          subst (λ (l : Limits). (is_node l.n p && is_down (h.world.node p).state) ≡ false)
          h.shows.size (subst (λ (s : State). (is_node old.group.size.n p && is_down s) ≡ false)
          (h.shows.nodes p).state e)

      happened : Steps old.group (Restart p []) (λ told. told ≡ reply) new.group → Beside P new
      happened steps =
          record {
            world = (step h.world (Restart p [])).1;
            shows = (steps h.world h.shows).shows;
            stores = λ i store got.
                subst (λ (node : Node). P node store)
                (sym (ap (λ (f : ℕ → Node). f (suc i)) (unfallen-stays h.world p [] unfallen)))
                (h.stores i store (subst (λ stores. slice_get stores i ≡ Some store)
                (alone []).1 got));
          }

  -- ---- a command

  -- a lasting property that each node has with its store holds again after any command
  pub applies-beside : (old new : Clustered S) (command : Command A) (reply : Reply)
      → Applies g old command reply new → Beside P old → Beside P new
  applies-beside old new (command.Submit p client number payload) reply h beside =
      quiet-beside old new _ reply tt h beside
  applies-beside old new (command.Arrive p bytes) reply h beside =
      quiet-beside old new _ reply tt h beside
  applies-beside old new (command.Tick p) reply h beside =
      quiet-beside old new (Tick p) reply tt h beside
  applies-beside old new (command.Store p) reply h beside =
      held-beside old new p reply (held_draft old.group p) refl h beside
  applies-beside old new (command.Crash p) reply h beside =
      quiet-beside old new (Crash p) reply tt h beside
  applies-beside old new (command.Restart p) reply h beside =
      restarts-beside old new p reply (is_fallen old.group p) refl h beside
