-- What the stores of a cluster may hold, compared with a world that its group shows.
use Rattle.std.specs.Prelude.{IsTrue, List, None, Option, Some, false, length, slice_get, suc, true, ℕ}
use Rattle.std.specs.Prelude.{◌++◌, ◌≡◌, ◌⊎◌}
use Rattle.urb_stable.specs.Entries.{Entry}
use Rattle.urb_stable.specs.Records.{pend}
use Rattle.urb_stable.specs.StableStorage.{IsContents}
use Rattle.urb_stable.specs.StoredTogether.{IsContentsOrAll}
use Rattle.urb_stable.specs.declared.stable.Stable.{Ghosts}
use Rattle.urb_node.specs.Part.{Node}
use Rattle.urb_node.specs.Steps.{is_down}
use Rattle.urb_group.specs.GroupStores.{Clustered}
use Rattle.urb_group.specs.GroupViews.{Shows}
use Rattle.urb_world.specs.ProcessStops.{GoesOnIn, MayLeave}
use Rattle.urb_world.specs.RunInvariant.{AreShort}
use Rattle.urb_world.specs.StoresAhead.{IsOrStandsFor, MayFollow}
use Rattle.urb_world.specs.World.{World, image_of, stored}
use Rattle.urb_names.specs.Nodes.{is_node}

module _ {S A : Type 0} (g : Ghosts S A) where
  -- if this store is honest, whatever it may turn out to hold is what a stop may leave of the node
  abbrev pub HoldsOf : Node → S → Type 0
  HoldsOf node store =
      g.is_honest store → (records : List Entry)
      → IsContents (g.certain store) (g.doubt store) records → MayLeave node records

  -- the stores, one after the other, hold what a stop may leave of the world's nodes
  abbrev pub AllHold : World → List S → Type 0
  AllHold w stores =
      (i : ℕ) (store : S) → slice_get stores i ≡ Some store → HoldsOf (w.node (suc i)) store

  -- A stop at this moment leaves certain records in the store, or these followed by a doubtful
  -- record. Each of these lists is one that a stop may leave of the node.
  pub record LeavesOf (node : Node) (store : S) : Type 0 where
    pub certain : List Entry
    pub doubtful : Option Entry
    pub only : g.leaves_only store (IsContents certain doubtful)
    pub may : (records : List Entry) → IsContents certain doubtful records → MayLeave node records

  -- A stop comes inside the call that turned the earlier stores into the later ones. If a store was
  -- honest before, and its storage is still clean, the stop leaves in it what a stop may leave of
  -- the world's node.
  abbrev pub StopLeaves : World → List S → List S → Type 0
  StopLeaves w earlier later =
      (i : ℕ) (before after : S) → slice_get earlier i ≡ Some before
      → slice_get later i ≡ Some after → g.is_honest before → g.is_clean after
      → LeavesOf (w.node (suc i)) after

  -- a stop between two calls leaves in each honest store what it may leave of the world's node
  abbrev pub RestLeaves : World → List S → Type 0
  RestLeaves w stores =
      (i : ℕ) (store : S) → slice_get stores i ≡ Some store → g.is_honest store
      → LeavesOf (w.node (suc i)) store

  -- An honest store of this node. Whatever it may turn out to hold is what a stop may leave of the
  -- node. So is whatever a stop at this moment leaves of it. While the node is up, the store holds
  -- the node's records for certain, no record is in doubt, and the next call need not be a
  -- retrieve.
  pub record IsStoreOf (node : Node) (store : S) : Type 0 where
    pub contents : HoldsOf node store
    pub left : g.is_honest store → LeavesOf node store
    pub up : g.is_honest store → is_down node.state ≡ false
        → (g.certain store ≡ node.records) × (g.doubt store ≡ None)
    pub sure : is_down node.state ≡ false → g.is_doubtful store ≡ false

  -- each store, in order, belongs to the world's node at its place
  abbrev pub AreStoresOf : World → List S → Type 0
  AreStoresOf w stores =
      (i : ℕ) (store : S) → slice_get stores i ≡ Some store → IsStoreOf (w.node (suc i)) store

  -- the cluster's group shows a world, and the cluster's stores belong to that world's nodes
  pub record IsStocked (cluster : Clustered S) : Type 0 where
    pub world : World
    pub shows : Shows cluster.group world
    pub stores : AreStoresOf world cluster.stores

  -- A store of this node between two calls, also after a failure shut it. If its storage has
  -- returned what was written, a stop leaves in it what it may leave of the node. It is then
  -- honest, or it is shut and its node is down.
  pub record IsLasting (node : Node) (store : S) : Type 0 where
    pub left : g.is_clean store → LeavesOf node store
    pub known : g.is_clean store → g.is_honest store
        ⊎ (g.is_shut store × (is_down node.state ≡ true))

  -- a stocked cluster whose stores all last
  pub record IsSecured (cluster : Clustered S) : Type 0 where
    pub stocked : IsStocked cluster
    pub lasting : (i : ℕ) (store : S) → slice_get cluster.stores i ≡ Some store
        → IsLasting (stocked.world.node (suc i)) store

  -- if a store's storage has returned what was written, a stop leaves in it what it may leave of
  -- the world's node
  abbrev pub WouldLeave : World → List S → Type 0
  WouldLeave w stores =
      (i : ℕ) (store : S) → slice_get stores i ≡ Some store → g.is_clean store
      → LeavesOf (w.node (suc i)) store

  -- A stop inside a call that stores a tail together leaves the records of node p, or these and the
  -- whole tail. The tail may follow them.
  pub record LeavesTogether (w : World) (p : ℕ) (store : S) : Type 0 where
    pub is : IsTrue (is_node w.size.n p)
    pub tail : List Entry
    pub may : MayFollow w.size (stored w) p (stored w p) tail
    pub short : AreShort (pend (stored w p ++ tail))
    pub only : g.leaves_only store (IsContentsOrAll tail (stored w p) None)

  -- What a stop leaves of node p's store, which may hold records ahead of their events: what it may
  -- leave of the node, or of the node as its store has it.
  abbrev pub LeavesAhead : World → ℕ → S → Type 0
  LeavesAhead w p store =
      LeavesTogether w p store
      ⊎ ((node : Node) × IsOrStandsFor w p node × LeavesOf node store)

  -- if a store's storage has returned what was written, a stop leaves in it that of its node
  abbrev pub WouldLeaveAhead : World → List S → Type 0
  WouldLeaveAhead w stores =
      (i : ℕ) (store : S) → slice_get stores i ≡ Some store → g.is_clean store
      → LeavesAhead w (suc i) store

  -- if the store's storage has returned what was written, the store is honest
  abbrev pub IsGenuine : S → Type 0
  IsGenuine store = g.is_clean store → g.is_honest store

  -- if the store's storage has returned what was written, the store is honest, or a failure has
  -- shut it
  abbrev pub IsKnown : S → Type 0
  IsKnown store = g.is_clean store → g.is_honest store ⊎ g.is_shut store

  -- images of all nodes: each honest store may turn out to hold its image
  pub record AreChosen (stores : List S) (images : List (List Entry)) : Type 0 where
    pub one_each : length images ≡ length stores
    pub each : (i : ℕ) (store : S) (image : List Entry) → slice_get stores i ≡ Some store
        → slice_get images i ≡ Some image
        → g.is_honest store × IsContents (g.certain store) (g.doubt store) image

  -- The group shows a world. All that its stores may turn out to hold fits together, and opens a
  -- group that goes on from that world.
  pub record ContentsFit (cluster : Clustered S) : Type 0 where
    pub world : World
    pub shows : Shows cluster.group world
    pub fit : (images : List (List Entry)) → AreChosen cluster.stores images
        → GoesOnIn world (image_of images)
