-- What the next opening of a cluster over journals finds after a stop of the machine.
use Rattle.std.specs.Prelude.{List}
use Rattle.std.specs.List.{All}
use Rattle.urb_stable.specs.declared.stable.Stable.{Ghosts}
use Rattle.urb_group.specs.GroupStores.{Clustered}
use Rattle.urb_group.specs.ClusterCalls.{Applies}
use Rattle.urb_group.specs.StoreOpenings.{ContinuesFrom}
use Rattle.urb_group.specs.GroupViews.{GroupView}
use Rattle.urb_group.specs.StoreContents.{IsSecured}
use Rattle.urb_world.specs.World.{World}
use Rattle.urb_group.specs.declared.command.Command.{Command}
use Rattle.urb_node.specs.Replies.{Reply}

module _ {S A : Type 0} (g : Ghosts S A) where
  -- the group was opened over some stores, and continues from this world
  abbrev pub IsContinuation : World → GroupView → Type 0
  IsContinuation w group = (passed : List S) × ContinuesFrom g w passed group

  -- The new cluster goes on from the world that the secured one showed, as far as the storages have
  -- returned what was written.
  abbrev pub GoesOnFrom : Clustered S → Clustered S → Type 0
  GoesOnFrom old new =
      (secured : IsSecured g old) → All g.is_clean new.stores
      → IsContinuation secured.stocked.world new.group

  -- The command was done with this reply, and the new cluster goes on from the world that it led
  -- to.
  pub record GoesOnBehind (old : Clustered S) (what : Command A) (reply : Reply)
      (new : Clustered S) : Type 0 where
    pub between : Clustered S
    pub done : Applies g old what reply between
    pub secured : IsSecured g old → IsSecured g between
    pub goes_on : GoesOnFrom between new
