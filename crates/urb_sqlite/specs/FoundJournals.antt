-- What the opening of a node's journal finds, depending on what its files held.
use Rattle.std.specs.Prelude.{◌≡◌, ◌⊎◌, ℕ, zero, suc, List, [], Some, slice_get}
use Rattle.sqlite_disk.specs.declared.start.Start as start
use Rattle.sqlite_wal.specs.Files.{image_at}
use Rattle.sqlite_wal.specs.Recovery.{Image}
use Rattle.sqlite_trees.specs.Tree.{Trees}
use Rattle.sqlite.specs.Files.{HoldsDatabase}
use Rattle.urb_stable.specs.Entries.{Entry}
use Rattle.urb_stable.specs.declared.stable.Stable.{Ghosts}
use Rattle.urb_sqlite.specs.RecordRows.{StandsFor}
use Rattle.urb_sqlite.specs.OpenJournal.{IsBare, IsBase, IsJournal, IsUnmade, base_of, database_of}

-- what the log and the database file of a node held, for nodes 1 to 7
abbrev pub held_by : {A B C D E F G : Type 0} → start.Ghosts A → start.Ghosts B → start.Ghosts C
    → start.Ghosts D → start.Ghosts E → start.Ghosts F → start.Ghosts G → ℕ → Image
held_by a b c d e f g (suc zero) = image_at a
held_by a b c d e f g (suc (suc zero)) = image_at b
held_by a b c d e f g (suc (suc (suc zero))) = image_at c
held_by a b c d e f g (suc (suc (suc (suc zero)))) = image_at d
held_by a b c d e f g (suc (suc (suc (suc (suc zero))))) = image_at e
held_by a b c d e f g (suc (suc (suc (suc (suc (suc zero)))))) = image_at f
held_by a b c d e f g _ = image_at g

-- What an opening finds while the storage returns what was written. The journal is honest. If the
-- files held a journal, it has that journal's records. It has no record if the database file was
-- empty, or if a first start was stopped before there was a database. It has none either if the
-- database lists nothing. If the database had only other tables, or only one table of a journal,
-- the rows are the records. `is_unmade` says that a first start was stopped before there was a
-- database. Each opening has its own test for that.
pub record IsFoundIf (is_unmade : Type 0) (image : Image) (is_clean is_honest : Type 0)
    (records : List Entry) : Type 0 where
  pub stood : is_clean → (db : Trees) → HoldsDatabase image db → (journal : IsJournal db)
      → is_honest × StandsFor (database_of journal) records
  pub fresh : is_clean → image.db ≡ [] → is_honest × (records ≡ [])
  pub unmade : is_clean → is_unmade → is_honest × (records ≡ [])
  pub empty : is_clean → (db : Trees) → HoldsDatabase image db → IsBare db
      → is_honest × (records ≡ [])
  pub adopted : is_clean → (db : Trees) → HoldsDatabase image db → (base : IsBase db)
      → is_honest × StandsFor (base_of base) records

-- These files hold these records. They hold a database in which the records stand. Or they hold no
-- database yet, and there is no record.
abbrev pub HoldsRecords : Image → List Entry → Type 0
HoldsRecords image records =
    ((db : Trees) × HoldsDatabase image db × ((base : IsBase db) × StandsFor (base_of base) records))
    ⊎ (((image.db ≡ []) ⊎ IsUnmade image) × (records ≡ []))

-- What the opening of a pair of files finds. It makes a database in all files that are `IsUnmade`.
abbrev pub IsFoundIn : Image → Type 0 → Type 0 → List Entry → Type 0
IsFoundIn image = IsFoundIf (IsUnmade image) image

module _ {S A : Type 0} (g : Ghosts S A) where
  -- The journals, one after the other, are those of nodes 1, 2, 3, .. Each was found in what its
  -- node's files held.
  abbrev pub AreFoundIn : (ℕ → Image) → List S → Type 0
  AreFoundIn held journals =
      (i : ℕ) (journal : S) → slice_get journals i ≡ Some journal
      → IsFoundIn (held (suc i)) (g.is_clean journal) (g.is_honest journal) (g.certain journal)
