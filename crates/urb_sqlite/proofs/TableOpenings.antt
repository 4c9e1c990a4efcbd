-- Opening one table: the outcomes of its CREATE and its SELECT, one after the other.
use Rattle.urb_sqlite.proofs.Common.{AddsTable, Database, Device, Entry, HasCleanDisk, HasTable}
use Rattle.urb_sqlite.proofs.Common.{IsFirstBad, IsInOrder, IsMade, IsPartOpened, IsPartRefused}
use Rattle.urb_sqlite.proofs.Common.{IsRead, IsRolledBack, IsUnchanged, KeepsCommit, List, NoMemory}
use Rattle.urb_sqlite.proofs.Common.{Ok, Part, Row, StoreFault, [], ap, false, has_table, inl, inr}
use Rattle.urb_sqlite.proofs.Common.{is_bad_row, limit_of, name_of, read_from, refl, subst, sym}
use Rattle.urb_sqlite.proofs.Common.{table_rows, tree_of, ℕ, ◌∙◌, ◌≡◌, ◌⊎◌}
use Rattle.sqlite.specs.State.{State}
use Rattle.urb_stable.specs.declared.stable.StoreFault.TheVariants.{BadRow}
use Rattle.urb_sqlite.specs.internal.JournalChanges.{CommitsAtMost}
use Rattle.urb_sqlite.specs.internal.PartOpening.{IsPrepared}
use Rattle.urb_sqlite.proofs.TableReadings.{unchanged_then}
use Rattle.urb_sqlite.proofs.KeptRecords.{keeps_if_left, keeps_then}
use Rattle.urb_sqlite.proofs.OpenedTables.{rows_none}

-- no rows are read as no records
pub none_read : (limit first : ℕ) → read_from limit first [] ≡ Ok []
unfolding read_from
none_read limit first = refl

made_then : (old mid new : State) (name : List ℕ) → IsMade old mid name → IsUnchanged mid new
    → IsMade old new name
made_then old mid new name made same = record {
  was_open = made.was_open;
  is_open = same.0.is_open;
  adds = subst (λ (d : Database). AddsTable old.now d name) (sym same.0.now_is) made.adds;
}

module _ (part : Part) (old mid new : State) (first : ℕ) (one : IsPrepared old mid part)
    (clean : HasCleanDisk mid) where
  -- a table that was prepared, and whose rows were then read, is opened
  pub opened : (next : ℕ) → IsUnchanged mid new
      → (HasTable mid.now.schema (name_of part) → IsRead mid.now part first next)
      → IsPartOpened old new part first next
  opened next same read = record {
    table = ap (λ (d : Database). has_table (name_of part) d.schema) same.0.now_is ∙ one.table;
    most = elim (one.most clean) [
      | inl before ↦ inl (unchanged_then old mid new before same)
      | inr made ↦ inr (made_then old mid new (name_of part) made same)
    ];
    made = λ lacks. made_then old mid new (name_of part) (one.made clean lacks) same;
    found = λ has. unchanged_then old mid new (one.found clean has) same;
    read = λ has. subst (λ (d : Database). IsRead d part first next) (sym same.0.now_is)
        (read (subst (λ (d : Database). HasTable d.schema (name_of part)) same.0.now_is has));
    autocommit = same.0.mode ∙ one.autocommit;
    settled = λ is_open. same.0.now_is ∙ one.settled same.0.was_open ∙ sym same.0.committed_is;
  }

  -- a bad row of a database, in order of pos
  abbrev BadIn : State → ℕ → Type 0
  BadIn s place =
      (rows : List Row) × IsInOrder (tree_of s.now.schema (name_of part)) s.now.trees rows
      × IsFirstBad (limit_of part) first rows place

  -- if a prepared table can't be read, it is refused, and at most the empty table was committed
  pub unread : (e : StoreFault) → IsUnchanged mid new ⊎ IsRolledBack mid new
      → (HasTable mid.now.schema (name_of part) → (place : ℕ) → e ≡ BadRow place → BadIn mid place)
      → (HasTable mid.now.schema (name_of part) → (records : List Entry)
      → read_from (limit_of part) first (table_rows mid.now (name_of part)) ≡ Ok records
      → is_bad_row e ≡ false)
      → IsPartRefused old new part first e
  unread e how bad sound =
      let keeps : KeepsCommit mid new = keeps_if_left mid new how in
      record {
        commit = elim (one.most clean) [
          | inl same ↦ inl (keeps_then old mid new (keeps_if_left old mid (inl same)) keeps)
          | inr made ↦ inr (λ is_open.
              let is : new.committed ≡ mid.now =
              keeps.committed is_open ∙ sym (one.settled (keeps.was_open is_open)) in (
                made.was_open,
                subst (λ (d : Database). AddsTable old.now d (name_of part))
                    (sym is) made.adds,
              ))
        ];
        found = λ has.
            keeps_then old mid new (keeps_if_left old mid (inl (one.found clean has))) keeps;
        bad = λ place is has.
            let same = (one.found clean has).0.now_is in
            subst (λ (d : Database). (rows : List Row)
            × IsInOrder (tree_of d.schema (name_of part)) d.trees rows
            × IsFirstBad (limit_of part) first rows place) same
            (bad (subst (λ (d : Database). HasTable d.schema (name_of part)) (sym same) has)
            place is);
        rowless = λ lacks.
            let made = one.made clean lacks in
            sound made.adds.has [] (ap (read_from (limit_of part) first)
            (rows_none old.now mid.now (name_of part) made.adds)
            ∙ none_read (limit_of part) first);
      }

-- a table that can't be prepared is refused, and the fault names no bad row
pub unprepared : (part : Part) (old new : State) (first : ℕ) (e : StoreFault)
    → (e ≡ NoMemory) ⊎ (e ≡ Device) → CommitsAtMost old new (name_of part)
    → (HasTable old.now.schema (name_of part) → KeepsCommit old new)
    → IsPartRefused old new part first e
unprepared part old new first e known commit kept = record {
  commit = commit;
  found = kept;
  bad = λ place is has. absurd (elim known [
    | inl short ↦ (let n = sym short ∙ is in cc)
    | inr device ↦ (let n = sym device ∙ is in cc)
  ]);
  rowless =
      λ lacks. elim known [ inl short ↦ ap is_bad_row short | inr device ↦ ap is_bad_row device ];
}
