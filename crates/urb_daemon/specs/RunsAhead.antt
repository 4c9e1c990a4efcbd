-- A run of a group over stores that may hold records ahead of their nodes.
use Rattle.std.specs.Prelude.{Bool, List, Result, Some, map, slice_get, ℕ, ◌≡◌}
use Rattle.urb_names.specs.LabelsAndContents.{Limits}
use Rattle.urb_stable.specs.AheadStores.{AheadView, IsSound, fresh, ghosts_over}
use Rattle.urb_stable.specs.declared.stable.Stable.{Ghosts}
use Rattle.urb_group.specs.StoreOpenings.{HasStopped}
use Rattle.urb_group.specs.GroupViews.{GroupView}
use Rattle.urb_world.specs.World.{World}
use Rattle.urb_daemon.specs.Runs.{ComeBack, EndsFrom}
use Rattle.urb_daemon.specs.RunsAfterStop.{EndsAfterStop}
use Rattle.urb_daemon.specs.declared.serve_fault.ServeFault.{ServeFault}

module _ {S A : Type 0} (g : Ghosts S A) where
  -- A group ran over these stores, and returned them (`closed`). The run wrapped each store in one
  -- that may hold records ahead of its node, and took it out at the end. If a stop had left the
  -- stores, the group went on from there.
  pub record RanAhead (size : Limits) (stores : List S) (told : Bool) (end : Result ℕ ServeFault)
      (closed : List S) : Type 0 where
    pub lasts : List (AheadView S)
    pub order : ComeBack (ghosts_over g) (map (fresh g) stores) lasts
    pub ends : EndsFrom (ghosts_over g) size (map (fresh g) stores) told end lasts
    pub goes_on : (old : GroupView) (w : World)
        → HasStopped (ghosts_over g) old w size (map (fresh g) stores)
        → EndsAfterStop (ghosts_over g) old w size (map (fresh g) stores) told end lasts
    pub sound : (i : ℕ) (s : AheadView S) → slice_get lasts i ≡ Some s → IsSound g s
    pub closes : closed ≡ map (λ s. s.store) lasts
