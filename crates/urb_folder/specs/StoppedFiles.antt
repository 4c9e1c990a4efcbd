-- What the files of a group's nodes hold once its process has stopped.
use Rattle.std.specs.Prelude.{List, length, suc, ℕ, ◌<◌, ◌≡◌, ◌≤◌}
use Rattle.sqlite.specs.Files.{HoldsDatabase}
use Rattle.sqlite_trees.specs.Tree.{Trees}
use Rattle.sqlite_wal.specs.Recovery.{Image}
use Rattle.urb_names.specs.LabelsAndContents.{Limits}
use Rattle.urb_stable.specs.Entries.{Entry}
use Rattle.urb_node.specs.Part.{Node}
use Rattle.urb_group.specs.GroupViews.{GroupView, IsSound, Shows}
use Rattle.urb_world.specs.ProcessStops.{MayLeave}
use Rattle.urb_world.specs.StoresAhead.{IsAsStored}
use Rattle.urb_world.specs.World.{World}
use Rattle.urb_sqlite.specs.FoundJournals.{HoldsRecords}

-- the files hold what a stop may leave of this node
abbrev pub HoldsNode : Image → Node → Type 0
HoldsNode image node = (records : List Entry) × MayLeave node records × HoldsRecords image records

-- These files hold a database that a stop may have left of a store. The store's disk has returned
-- what was written.
pub record HoldsStopped (is_clean : Type 0) (may_leave : Trees → Type 0) (image : Image) : Type 0 where
  pub clean : is_clean
  pub db : Trees
  pub may : may_leave db
  pub holds : HoldsDatabase image db

-- A process stopped whose group showed a world, and this is that world as its stores have it. It had
-- at most as many nodes as these limits. The files of each node hold what a stop may leave of the
-- node, so those of a new node hold no record.
pub record HasLeft (held : ℕ → Image) (old : GroupView) (w : World) (limits : Limits) : Type 0 where
  pub sound : IsSound old
  pub counted : length old.nodes ≡ old.size.n
  pub nodes : old.size.n ≤ limits.n
  pub shown : World
  pub shows : Shows old shown
  pub stands : IsAsStored shown w
  pub holds : (i : ℕ) → i < limits.n → HoldsNode (held (suc i)) (w.node (suc i))
