-- One node's store was asked: the group, the other stores and the places for the drafts after it.
use Rattle.urb_group.proofs.Common.{Bool, BreaksArmed, Clustered, Entry, Err, Event, Fail}
use Rattle.urb_group.proofs.Common.{FailsHeld, Failure, Ghosts, GroupView, IsTied, IsUnfallen}
use Rattle.urb_group.proofs.Common.{IsUnstored, List, None, Ok, Option, Placed, Refusal, Refused}
use Rattle.urb_group.proofs.Common.{Restart, RestartsBy, Result, Returns, Some, Steps, StoreFault}
use Rattle.urb_group.proofs.Common.{StoreMoves, StoresHeld, and_parts, arith, get_or, held_draft}
use Rattle.urb_group.proofs.Common.{is_down, is_fallen, is_node, length, refl, slice_get_read}
use Rattle.urb_group.proofs.Common.{slice_set, stored_as, subst, sym, true, view_of, ℕ, ◌-◌, ◌<◌}
use Rattle.urb_group.proofs.Common.{◌∙◌, ◌≡◌, ◌≤◌}
use Rattle.std.proofs.Common.{length-set}
use Rattle.urb_world.proofs.steps.DraftsInSteps.{event_node}
use Rattle.urb_group.proofs.calls.DraftsInCalls.{node-bounds, reacts-tied, refused-tied}
use Rattle.urb_group.proofs.calls.HeldDrafts.{tied-set}
use Rattle.urb_group.proofs.calls.StoreAnswers.{held-as}
use Rattle.urb_group.specs.ClusterCalls.{Reads, Stores}
use Rattle.urb_node.specs.Replies.{Reply}
use Rattle.urb_stable.specs.MemoryStores.{Memory}

-- a store that was lent belongs to its place
store-moves : {S : Type 0} (xs : List S) (p q : ℕ) (before after : S) → q ≡ p → q - 1 < length xs
    → before ≡ get_or xs (q - 1) before → StoreMoves xs p before after (slice_set xs (q - 1) after)
store-moves xs p q before after e l h =
    subst (λ (i : ℕ). StoreMoves xs i before after (slice_set xs (q - 1) after)) e
    (record { was = slice_get_read xs (length xs) (q - 1) before refl l h; is = refl })

-- the place of a node of the group is in a list that has a place for each node
node-within : {X : Type 0} (xs : List X) (p q n : ℕ) → (0 < p) × (p ≤ n) → length xs ≡ n → q ≡ p
    → q - 1 < length xs
node-within xs p q n bounds count e = omega (arith, bounds.0, bounds.1)

-- if a node's draft is in its place, the node is one of the group
pub held-bounds : (group : GroupView) (p : ℕ) (draft : Placed) → held_draft group p ≡ Some draft
    → (0 < p) × (p ≤ group.size.n)
held-bounds group p draft h = node-bounds group.size.n p (held-as group p draft h).there

-- if a node of the group is down, it is one of the group
pub fallen-bounds : (group : GroupView) (p : ℕ) → is_fallen group p ≡ true
    → (0 < p) × (p ≤ group.size.n)
fallen-bounds group p h =
    node-bounds group.size.n p (and_parts (is_node group.size.n p)
    (is_down (view_of group p).state) h).0

-- the draft belongs to its own node
pub held-self : (group : GroupView) (p : ℕ) (draft : Placed) → held_draft group p ≡ Some draft
    → held_draft group draft.node ≡ Some draft
held-self group p draft h =
    subst (λ (i : ℕ). held_draft group i ≡ Some draft) (sym (held-as group p draft h).node) h

stored-at : (draft : Placed) (answer : Result (Unit {0}) StoreFault)
    → event_node (stored_as draft answer) ≡ draft.node
stored-at draft (Ok done) = refl
stored-at draft (Err fault) = refl

-- ---- a store that was asked to keep a draft

stored-tied : (old new : GroupView) (p stores : ℕ) (drafts : List (Option Placed)) (draft : Placed)
    (event : Event) (IsTold : Reply → Type 0)
    → IsTied old stores drafts → held_draft old p ≡ Some draft → event_node event ≡ draft.node
    → Steps old event IsTold new → held_draft new draft.node ≡ None
    → IsTied new stores (slice_set drafts (p - 1) None)
stored-tied old new p stores drafts draft event IsTold tied held e steps free =
    let node : draft.node ≡ p = (held-as old p draft held).node in
    let bounds = held-bounds old p draft held in
    tied-set old new event IsTold stores drafts tied steps p None (e ∙ node) bounds.0
    (node-within drafts p p old.size.n bounds tied.all_places refl)
    (subst (λ (i : ℕ). held_draft new i ≡ None) node free)

-- the store was armed to fail, and failed so
pub lost-tied : {S : Type 0} (old new : GroupView) (p q : ℕ) (stores : List S)
    (drafts places : List (Option Placed)) (draft : Placed) (after : S) (reply : Reply)
    → IsTied old (length stores) drafts → held_draft old p ≡ Some draft
    → Steps old (Fail draft.node) (λ told. told ≡ reply) new → held_draft new draft.node ≡ None
    → places ≡ slice_set drafts (p - 1) None
    → IsTied new (length (slice_set stores (q - 1) after)) places
lost-tied old new p q stores drafts places draft after reply tied held steps free is =
    subst (λ (n : ℕ). IsTied new n places) (sym (length-set stores (q - 1) after))
    (subst (λ (ds : List (Option Placed)). IsTied new (length stores) ds) (sym is)
    (stored-tied old new p (length stores) drafts draft (Fail draft.node)
    (λ told. told ≡ reply) tied held refl steps free))

-- if the armed store of a held draft fails, the cluster fails that draft, and the other stores stay
pub lost-fails : (old : Clustered Memory) (new : GroupView) (p q : ℕ)
    (drafts : List (Option Placed)) (draft : Placed) (before after : Memory) (failure : Failure)
    (reply : Reply)
    → IsTied old.group (length old.stores) drafts → held_draft old.group p ≡ Some draft → q ≡ p
    → before ≡ get_or old.stores (q - 1) before → BreaksArmed failure before draft after
    → Steps old.group (Fail draft.node) (λ told. told ≡ reply) new
    → FailsHeld old p (held_draft old.group p) failure reply
    (record { group = new; stores = slice_set old.stores (q - 1) after })
lost-fails old new p q drafts draft before after failure reply tied held e lent breaks steps =
    let within =
    node-within old.stores p q old.group.size.n (held-bounds old.group p draft held)
    tied.all_stores e in
    subst (λ (o : Option Placed).
    FailsHeld old p o failure reply
    (record { group = new; stores = slice_set old.stores (q - 1) after })) (sym held)
    (record {
      before = before;
      after = after;
      moves =
          store-moves old.stores draft.node q before after
          (e ∙ sym (held-as old.group p draft held).node) within lent;
      breaks = breaks;
      event = steps;
    })

-- a store that is not armed
pub unstored-fails : (old : Clustered Memory) (p : ℕ) (failure : Failure) (r : Refusal)
    → IsUnstored old.group p (Some r)
    → FailsHeld old p (held_draft old.group p) failure (Refused r) old
unstored-fails old p failure r h =
    subst (λ (o : Option Placed). FailsHeld old p o failure (Refused r) old) (sym h.0) (h.1, refl)

module _ {S A : Type 0} (g : Ghosts S A) where
  -- once a store was asked to keep a draft and the draft's place is emptied, the places have what
  -- nodes hold
  pub kept-tied : (old new : GroupView) (p q : ℕ) (stores : List S)
      (drafts places : List (Option Placed)) (draft : Placed) (before after : S) (reply : Reply)
      → IsTied old (length stores) drafts → held_draft old p ≡ Some draft
      → Stores g old before draft reply new after → held_draft new draft.node ≡ None
      → places ≡ slice_set drafts (p - 1) None
      → IsTied new (length (slice_set stores (q - 1) after)) places
  kept-tied old new p q stores drafts places draft before after reply tied held kept free is =
      subst (λ (n : ℕ). IsTied new n places) (sym (length-set stores (q - 1) after))
      (subst (λ (ds : List (Option Placed)). IsTied new (length stores) ds) (sym is)
      (stored-tied old new p (length stores) drafts draft (stored_as draft kept.answer)
      (λ told. told ≡ reply) tied held (stored-at draft kept.answer) kept.event free))

  -- if a node's store was asked to keep its held draft, the cluster stores it, and the other stores
  -- stay
  pub kept-stores : (old : Clustered S) (new : GroupView) (p q : ℕ) (drafts : List (Option Placed))
      (draft : Placed) (before after : S) (reply : Reply)
      → IsTied old.group (length old.stores) drafts → held_draft old.group p ≡ Some draft → q ≡ p
      → before ≡ get_or old.stores (q - 1) before
      → Stores g old.group before draft reply new after
      → StoresHeld g old p (held_draft old.group p) reply
      (record { group = new; stores = slice_set old.stores (q - 1) after })
  kept-stores old new p q drafts draft before after reply tied held e lent kept =
      let within =
      node-within old.stores p q old.group.size.n (held-bounds old.group p draft held)
      tied.all_stores e in
      subst (λ (o : Option Placed).
      StoresHeld g old p o reply (record
      { group = new; stores = slice_set old.stores (q - 1) after })) (sym held)
      (record {
        before = before;
        after = after;
        moves =
            store-moves old.stores draft.node q before after
            (e ∙ sym (held-as old.group p draft held).node) within lent;
        stored = kept;
      })

  -- a store that is not asked
  pub unstored-stores : (old : Clustered S) (p : ℕ) (r : Refusal) → IsUnstored old.group p (Some r)
      → StoresHeld g old p (held_draft old.group p) (Refused r) old
  unstored-stores old p r h =
      subst (λ (o : Option Placed). StoresHeld g old p o (Refused r) old) (sym h.0) (h.1, refl)

  -- ---- a store that was asked for its records

  returned-tied : (old new : GroupView) (p stores : ℕ) (drafts : List (Option Placed))
      (answer : Result (List Entry) StoreFault) (reply : Reply)
      → IsTied old stores drafts → Returns old p answer reply new → held_draft old p ≡ None
      → held_draft new p ≡ None → IsTied new stores drafts
  returned-tied old new p stores drafts (Ok image) reply tied h before after =
      reacts-tied old new (Restart p image) stores drafts tied reply h before after
  returned-tied old new p stores drafts (Err fault) reply tied h before after =
      refused-tied old new stores drafts tied h.1

  -- if a node holds no draft while its store is asked for records, the places have what nodes hold
  pub read-tied : (old new : GroupView) (p q : ℕ) (stores : List S) (drafts : List (Option Placed))
      (before after : S) (reply : Reply)
      → IsTied old (length stores) drafts → Reads g old before p reply new after
      → held_draft old p ≡ None → held_draft new p ≡ None
      → IsTied new (length (slice_set stores (q - 1) after)) drafts
  read-tied old new p q stores drafts before after reply tied reads here there =
      subst (λ (n : ℕ). IsTied new n drafts) (sym (length-set stores (q - 1) after))
      (returned-tied old new p (length stores)
      drafts reads.answer reply tied reads.returns here there)

  -- if the store of a node that is down was asked for its records, the cluster restarts the node by
  -- its answer
  pub read-restarts : (old : Clustered S) (new : GroupView) (p q : ℕ)
      (drafts : List (Option Placed)) (before after : S) (reply : Reply)
      → IsTied old.group (length old.stores) drafts → is_fallen old.group p ≡ true → q ≡ p
      → before ≡ get_or old.stores (q - 1) before → Reads g old.group before p reply new after
      → RestartsBy g (is_fallen old.group p) old p reply
      (record { group = new; stores = slice_set old.stores (q - 1) after })
  read-restarts old new p q drafts before after reply tied fallen e lent reads =
      let within =
      node-within old.stores p q old.group.size.n (fallen-bounds old.group p fallen)
      tied.all_stores e in
      subst (λ (b : Bool). RestartsBy g b old p reply
      (record { group = new; stores = slice_set old.stores (q - 1) after })) (sym fallen)
      (record {
        before = before;
        after = after;
        moves =
            store-moves old.stores p q before after e within lent;
        reads = reads;
      })

  -- a store that is not asked
  pub unfallen-restarts : (old : Clustered S) (p : ℕ) (r : Refusal)
      → IsUnfallen old.group p (Some r) → RestartsBy g (is_fallen old.group p) old p (Refused r) old
  unfallen-restarts old p r h =
      subst (λ (b : Bool). RestartsBy g b old p (Refused r) old) (sym h.0)
      (λ image. (h.1 image, refl))
