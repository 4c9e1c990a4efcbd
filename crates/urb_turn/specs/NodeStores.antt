-- Stores of nodes after the events of a history, and events that leave a node as it is.
use Rattle.std.specs.Prelude.{Bool, IfSome, List, None, Option, Some, [], false, slice_get, suc, ℕ}
use Rattle.std.specs.Prelude.{◌+◌, ◌++◌, ◌==◌, ◌∷◌, ◌≡◌, ◌⊎◌}
use Rattle.urb_stable.specs.declared.stable.Stable.{Ghosts}
use Rattle.urb_world.specs.EventEffects.{event_node}
use Rattle.urb_world.specs.RecoveryPlans.{after}
use Rattle.urb_world.specs.Step.{Crash, Event}
use Rattle.urb_group.specs.StoreContents.{IsLasting, IsStoreOf, LeavesOf}
use Rattle.urb_stable.specs.Entries.{Entry}
use Rattle.urb_stable.specs.Records.{pend}
use Rattle.urb_world.specs.RunInvariant.{AreShort}
use Rattle.urb_world.specs.StoresAhead.{MayFollow}
use Rattle.urb_world.specs.World.{World, stored}

-- the event is one of node n itself: any event of this node but a crash
abbrev pub is_own : ℕ → Event → Bool
is_own n (Crash p) = false
is_own n event = event_node event == n

-- none of these events is one of node n itself
abbrev pub AreElsewhere : ℕ → List Event → Type 0
AreElsewhere n [] = Unit {0}
AreElsewhere n (event ∷ events) = (is_own n event ≡ false) × AreElsewhere n events

-- From the earlier moment to the later one nothing happened to node n, except that it may have
-- crashed.
pub record HasRested (n : ℕ) (earlier later : List Event) : Type 0 where
  pub between : List Event
  pub later_is : later ≡ earlier ++ between
  pub elsewhere : AreElsewhere n between

module _ {S A : Type 0} (g : Ghosts S A) where
  -- The store holds records ahead, behind those that it has given out. All of these together are
  -- the records that node n has stored, followed by a tail that may follow them. If the store is
  -- honest, it has given out its certain records. No record is in doubt, unless a failure has shut
  -- the store.
  pub record HasTail (w : World) (n : ℕ) (store : S) : Type 0 where
    pub tail : List Entry
    pub all : g.base store ++ g.ahead store ≡ stored w n ++ tail
    pub may : MayFollow w.size (stored w) n (stored w n) tail
    pub short : AreShort (pend (stored w n ++ tail))
    pub based : g.is_honest store → g.base store ≡ g.certain store
    pub sure : (g.doubt store ≡ None) ⊎ g.is_shut store

  -- the store holds no records ahead, or they are such a tail
  abbrev pub MayHaveTail : World → ℕ → S → Type 0
  MayHaveTail w n store = (g.ahead store ≡ []) ⊎ HasTail w n store

  -- this is so if the store's storage has returned what was written
  abbrev pub WouldHaveTail : World → ℕ → S → Type 0
  WouldHaveTail w n store = g.is_clean store → MayHaveTail w n store

  -- the same for each of these stores, which belong to nodes 1, 2, 3, ..
  abbrev pub HaveTails : World → List S → Type 0
  HaveTails w stores =
      (i : ℕ) (store : S) → slice_get stores i ≡ Some store → WouldHaveTail w (suc i) store

  -- none of these stores holds records ahead
  abbrev pub HoldNoneAhead : List S → Type 0
  HoldNoneAhead stores =
      (i : ℕ) (store : S) → slice_get stores i ≡ Some store → g.ahead store ≡ []

module _ {S A : Type 0} (g : Ghosts S A) (start : World) where
  -- The store matches node n after these events, which began in this world. It holds the node's
  -- records, or these and the held or the doubtful one. A stop leaves nothing else in it, except
  -- for records ahead. If its storage has returned what was written, those may follow the node's
  -- records.
  pub record IsStoreAfter (past : List Event) (n : ℕ) (store : S) : Type 0 where
    pub contents : IsStoreOf g ((after start past).node n) store
    pub lasting : IsLasting g ((after start past).node n) store
    pub tail : WouldHaveTail g (after start past) n store

  -- A stop at this moment leaves in the store the records of node n after these events, or these
  -- and the held or the doubtful one.
  abbrev pub LeavesAfter : List Event → ℕ → S → Type 0
  LeavesAfter past n store = g.is_clean store → LeavesOf g ((after start past).node n) store

  -- If the end of the last loan of node n's worker is known, the store matches the node after all
  -- events until then.
  abbrev pub IsStoreSince : Option (List Event) → ℕ → S → Type 0
  IsStoreSince last n store = IfSome last (λ past. IsStoreAfter past n store)

  -- these are stores of the nodes from this number on, and each matches its node after these events
  abbrev pub AreStoresAfter : List Event → ℕ → List S → Type 0
  AreStoresAfter past first [] = Unit {0}
  AreStoresAfter past first (store ∷ stores) =
      IsStoreAfter past first store × AreStoresAfter past (first + 1) stores
