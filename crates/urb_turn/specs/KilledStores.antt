-- The stores of a group whose process is killed in the middle of a run.
use Rattle.std.specs.Prelude.{List, Some, slice_get, suc, ℕ, ◌≡◌}
use Rattle.urb_stable.specs.declared.stable.Stable.{Ghosts}
use Rattle.urb_world.specs.Step.{Event}
use Rattle.urb_world.specs.World.{World}
use Rattle.urb_turn.specs.NodeStores.{HasRested, LeavesAfter}

module _ {S A : Type 0} (g : Ghosts S A) (start : World) where
  -- A stop at this moment of the history leaves in the store what it may leave of node n after some
  -- earlier moment, and the node has rested since then. If its worker is idle, the earlier moment is
  -- the end of the worker's last loan. While the store works, it is the end of the turn's first loan.
  pub record IsCutAt (past : List Event) (n : ℕ) (store : S) : Type 0 where
    pub earlier : List Event
    pub rests : HasRested n earlier past
    pub leaves : LeavesAfter g start earlier n store

  -- this is so of each of these stores, which are those of nodes 1, 2, 3, ..
  abbrev pub AreCutAt : List Event → List S → Type 0
  AreCutAt past stores =
      (i : ℕ) (store : S) → slice_get stores i ≡ Some store → IsCutAt past (suc i) store
