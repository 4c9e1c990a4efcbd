-- The two files of a journal after it was closed.
use Rattle.std.specs.Prelude.{◌≡◌}
use Rattle.sqlite_disk.specs.declared.Disk as disk
use Rattle.sqlite_disk.specs.declared.Files.{Files}
use Rattle.sqlite_trees.specs.Tree.{Trees}
use Rattle.sqlite_store.specs.declared.store.FileStore.{FileStore}
use Rattle.sqlite_store.specs.FileStore as store
use Rattle.sqlite.specs.State.{State}

module _ {D : Type 0} (g : disk.Ghosts D) where
  -- The files are those of a store. Every database that a stop leaves of that store is one that a
  -- stop could have left of this state.
  pub record LeavesNoMore (s : State) (files : Files D) : Type 0 where
    pub last : FileStore D g
    pub over : (files.log, files.db) ≡ store.files last
    pub fewer : (db : Trees) → store.recovers last db → s.may_leave db
