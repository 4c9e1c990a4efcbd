-- The outcome of opening the journal at one place of the list.
use Rattle.std.specs.Prelude.{List, MatchResult, Result, false, length, suc, ℕ, ◌≡◌}
use Rattle.sqlite.specs.Files.{file_state}
use Rattle.sqlite.specs.State.{HasCleanDisk}
use Rattle.sqlite_disk.specs.declared.Disk as disk
use Rattle.sqlite_wal.specs.Recovery.{Image}
use Rattle.urb_stable.specs.StableStorage.{is_place}
use Rattle.urb_stable.specs.declared.stable.StoreFault.{StoreFault}
use Rattle.urb_sqlite.specs.FoundJournals.{IsFoundIn}
use Rattle.urb_sqlite.specs.OpenJournal.{IsHonestJournal}
use Rattle.urb_sqlite.specs.RowReadings.{records_of}
use Rattle.urb_folder.specs.declared.folder_fault.FolderFault.{FolderFault}
use Rattle.urb_folder.specs.declared.folder_fault.FolderFault.TheVariants.{ForeignRecords, NoMemory}
use Rattle.urb_folder.specs.declared.folder_fault.FolderFault.TheVariants as fault
use Rattle.urb_folder.specs.declared.journal.Journal.{Journal}
use Rattle.urb_folder.specs.internal.OpenedPlaces.{FailsAfter}

module _ {D : Type 0} (g : disk.Ghosts D) where
  -- An outcome of opening the journal of this node. It is the node's journal, found with what the
  -- node's files held. Or it is a fault other than Place.
  abbrev pub OpensOf : (ℕ → Image) → ℕ → Result (Journal D g) StoreFault → Type 0
  OpensOf held node outcome = MatchResult outcome
      (λ j. (j.node ≡ node) × IsFoundIn (held node)
      (HasCleanDisk (file_state j.journal.conn)) (IsHonestJournal (file_state j.journal.conn))
      (records_of (file_state j.journal.conn).now))
      (λ fault. is_place fault ≡ false)

  -- the same, for the node at this place
  abbrev pub OpensIn : (ℕ → Image) → ℕ → Result (Journal D g) StoreFault → Type 0
  OpensIn held place = OpensOf held (suc place)

  -- The journals of `count` nodes couldn't be opened. The fault names the first node whose journal
  -- is refused, all before it were opened. Or memory was refused.
  abbrev pub FailsAtNode : (ℕ → Image) → ℕ → FolderFault → Type 0
  FailsAtNode held count (fault.Journal number why) =
      (earlier : List (Journal D g)) × (number ≡ suc (length earlier))
      × FailsAfter (OpensIn held) count earlier why
  FailsAtNode held count NoMemory = Unit {0}
  FailsAtNode held count (ForeignRecords number) = ⊥
