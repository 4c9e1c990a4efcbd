-- A closed journal whose database file needs no log.
use Rattle.sqlite_disk.specs.declared.Disk as disk
use Rattle.sqlite_disk.specs.declared.Files.{Files}
use Rattle.sqlite_wal.specs.Files.{outcomes}
use Rattle.sqlite_wal.specs.Recovery.{Image}
use Rattle.sqlite_trees.specs.Tree.{Trees}
use Rattle.sqlite.specs.Closing.{HoldsAlone}
use Rattle.sqlite.specs.Files.{image_of}

module _ {D : Type 0} (g : disk.Ghosts D) where
  -- The database file alone, with no log, holds a database: as it reads now, and whatever a crash
  -- leaves.
  pub record StandsAlone (files : Files D) : Type 0 where
    pub db : Trees
    pub seen : HoldsAlone (image_of g files) db
    pub left : (image : Image) → outcomes g files.log files.db image → HoldsAlone image db
