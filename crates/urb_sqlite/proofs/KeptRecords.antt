-- What each statement of a journal does to the journal's records.
use Rattle.urb_sqlite.proofs.Common.{AllByRecursion, AtPlace, Cert, CommitsBy, CommitsShowing}
use Rattle.urb_sqlite.proofs.Common.{Database, Device, Enforced, Entry, Err, Error, Executes}
use Rattle.urb_sqlite.proofs.Common.{ExecutesIn, FailsToQuery, HasBoth, HasCleanDisk, HasTable}
use Rattle.urb_sqlite.proofs.Common.{Insert, IsAppended, IsCounted, IsEntry, IsHonestJournal}
use Rattle.urb_sqlite.proofs.Common.{IsInOrder, IsInStep, IsJournal, IsKept, IsLeft, IsLive}
use Rattle.urb_sqlite.proofs.Common.{IsPermutation-sort_by, IsPermutation-trans, IsRolledBack}
use Rattle.urb_sqlite.proofs.Common.{IsSafeAtRest, IsShutJournal, IsSound, IsTrue, IsUnchanged}
use Rattle.urb_sqlite.proofs.Common.{IsWithin, KeepsCommit, LeavesOnly, List, NoMemory, None, Ok}
use Rattle.urb_sqlite.proofs.Common.{OnRows, Option, Part, Pend, PendCert, Place, Row, Second, Some}
use Rattle.urb_sqlite.proofs.Common.{StandsFor, StoreFault, Survives, Tally, [], ap, arith, by_pos}
use Rattle.urb_sqlite.proofs.Common.{cases_Bool, database_of, false, inl, inr, insert_text}
use Rattle.urb_sqlite.proofs.Common.{is_bad_row, journal_name, kept_of, length-append, limit_of}
use Rattle.urb_sqlite.proofs.Common.{map, mode_of, name_of, read_from, records_of, refl, row_of}
use Rattle.urb_sqlite.proofs.Common.{rows_in, second_name, select_of, shown, slice_get}
use Rattle.urb_sqlite.proofs.Common.{sorted_unique, subst, sym, table_rows, text_of, tree_of, ℕ}
use Rattle.urb_sqlite.proofs.Common.{◌++◌, ◌+◌, ◌<◌, ◌∙◌, ◌∷◌, ◌≡◌, ◌≢◌, ◌≤◌, ◌⊎◌}
use Rattle.sqlite.specs.Tree.{Trees}
use Rattle.sqlite.specs.View.{doubt}
use Rattle.std.proofs.lemmas.List.Sorted.{IsPermutation-sym}
use Rattle.sqlite.specs.Effect.{IsDatabase}
use Rattle.sqlite_schema.specs.declared.schema.Schema.{Schema}
use Rattle.sqlite.specs.Clock.{timed}
use Rattle.sqlite_schema.specs.declared.command.Source.{Source}
use Rattle.sqlite.specs.Table.{Table}
use Rattle.sqlite.specs.State.{IsNotRun, Runs, Shown, State, Writes, shows_rows}
use Rattle.urb_stable.specs.declared.stable.StoreFault.TheVariants.{BadRow}
use Rattle.urb_sqlite.proofs.AddedTables.{all_at, trees_differ}
use Rattle.urb_sqlite.proofs.StatementTexts.{found_at, insert_parsed, select_parsed}
use Rattle.urb_sqlite.proofs.InsertStatement.{HasPut, IsPut, commits_put, inserts, same_value, went}
use Rattle.urb_sqlite.proofs.AnySchema.{inserts_in_any, reads_in_any}
use Rattle.urb_sqlite.proofs.SortOrder.{sort_is}
use Rattle.urb_sqlite.proofs.SelectStatement.{selects}
use Rattle.urb_sqlite.proofs.StoredRows.{by_pos_total, placed, records_are, rows_there, stands_more}

-- equal schemas, and equal databases, have the same tables
pub same_first : {new old : Schema} → new ≡ old → HasBoth old → HasBoth new
same_first same has = subst HasBoth (sym same) has

-- a database that equals one with both tables has both tables
pub same_journal : {new old : Database} → new ≡ old → HasBoth old.schema → HasBoth new.schema
same_journal same has = subst (λ (d : Database). HasBoth d.schema) (sym same) has

-- the two names differ
pub names_differ : journal_name ≡ second_name → ⊥
names_differ e = absurd (let n = e in cc)

-- A refused statement changed nothing, or went back to the last commit.
pub left_by_err : (sql : List ℕ) (params : Row) (old new : State) (e : Error)
    → Executes sql params old new (Err e) → IsUnchanged old new ⊎ IsRolledBack old new
unfolding ExecutesIn IsNotRun
left_by_err sql params old new e (inl (inl none)) = inl none.1
left_by_err sql params old new e (inl (inr failed)) = inr failed.3
left_by_err sql params old new e (inr ran) = elim (cases_Bool (shows_rows false ran.0)) [
  | inl shows ↦ inl (rw shows at ran.2).1
  | inr runs ↦ elim (rw runs at ran.2) [ inl refused ↦ inl refused.1 | inr failed ↦ inr failed.3 ]
]

-- a call that changed no row: while the connection is open, the records and the next position stay
pub record IsSame (old new : State) : Type 0 where
  pub was_open : IsTrue new.is_open → IsTrue old.is_open
  pub now_is : IsTrue new.is_open → new.now ≡ old.now
  pub committed_is : IsTrue new.is_open → new.committed ≡ old.committed
  pub autocommit : old.in_transaction ≡ false → new.in_transaction ≡ false

-- a call that changed nothing changed no row
pub same_if_unchanged : (old new : State) → IsUnchanged old new → IsSame old new
same_if_unchanged old new h = record {
  was_open = λ _. h.0.was_open;
  now_is = λ _. h.0.now_is;
  committed_is = λ _. h.0.committed_is;
  autocommit = λ auto. h.0.mode ∙ auto;
}

-- if all was committed, a call that went back to the last commit changed no row
pub same_if_undone : (old new : State) → old.now ≡ old.committed → IsRolledBack old new
    → IsSame old new
same_if_undone old new settled h = record {
  was_open = h.was_open;
  now_is = λ is_open. (h.undone is_open).0 ∙ sym settled;
  committed_is = λ is_open. (h.undone is_open).1;
  autocommit = λ _. h.autocommit;
}

-- after a call that changed no row, the next position still agrees with the rows
pub kept_same : (old new : State) (next : ℕ) → IsTrue new.is_open → IsSame old new → IsKept old next
    → IsKept new next
kept_same old new next is_open same h =
    let now = same.now_is is_open in
    record {
      autocommit = same.autocommit h.autocommit;
      settled = now ∙ h.settled ∙ sym (same.committed_is is_open);
      counted =
          λ has. subst (λ (d : Database). IsCounted d next) (sym now)
          (h.counted (same_journal (sym now) has));
    }

-- the INSERT of a record puts the row of this record into the second table
pub puts_record : (old new : State) (place : ℕ) (r : Entry) (count : ℕ)
    → HasTable old.now.schema second_name → Executes insert_text (row_of place r) old new (Ok count)
    → IsPut old new (tree_of old.now.schema second_name) (kept_of place r)
puts_record old new place (Pend name m) count has h =
    inserts insert_text second_name insert_parsed old new place 1 name.sender name.seq m.client
    m.number m.payload count has h
puts_record old new place (PendCert name m) count has h =
    inserts insert_text second_name insert_parsed old new place 2 name.sender name.seq m.client
    m.number m.payload count has h
puts_record old new place (Cert name) count has h =
    inserts insert_text second_name insert_parsed old new place 3 name.sender name.seq 0 0
    [] count has h

-- Whatever the schema is, an INSERT that succeeds doesn't change it, and outside a transaction it
-- is committed.
pub record IsOwnWrite (old new : State) : Type 0 where
  pub schema : new.now.schema ≡ old.now.schema
  pub committed : old.in_transaction ≡ false → new.now ≡ new.committed
  pub mode : new.in_transaction ≡ old.in_transaction
  pub was_open : IsTrue old.is_open
  pub is_open : IsTrue new.is_open
  pub sound : IsDatabase new.now

-- whatever the schema is, an INSERT that succeeds keeps it, and is committed outside a transaction
pub writes_in_any : (params : Row) (old new : State) (count : ℕ)
    → Executes insert_text params old new (Ok count) → IsOwnWrite old new
unfolding ExecutesIn
writes_in_any params old new count h =
    let c = h.0 in
    let full = timed params c.formats h.1.now in
    let is = inserts_in_any insert_text second_name insert_parsed old.now.schema c h.1.is in
    let ran : Runs old new c.returning c.command (text_of insert_text c) full count =
    elim (cases_Bool (shows_rows false c)) [
      | inl shows ↦ absurd (let e = (rw shows at h.2).0 in cc)
      | inr runs ↦ rw runs at h.2
    ] in
    let w : Writes old new None (Insert is.0.0 is.0.1) (text_of insert_text c) full count =
    rw (is.1, is.0.2) at ran in
    record {
      schema =
          same_schema is.0.0 is.0.1 full (slice_get old.now.schema.tables is.0.0) w.tally w.changed;
      committed = λ auto. sym (rw auto at w.shown.committed_is);
      mode = w.shown.mode;
      was_open = w.shown.was_open;
      is_open = w.shown.is_open;
      sound = w.sound;
    }
  where
    same_schema : (at : ℕ) (from : Source) (full : Row) (o : Option Table) (tally : Tally)
        → AtPlace (λ table. OnRows (record {
          limit = old.step_limit;
          keys = Enforced;
          schema = old.now.schema;
          table =
              table;
          params = full;
        }) (mode_of old) None (Insert at from) old.now.trees) o
        (Ok (tally, new.now))
        → new.now.schema ≡ old.now.schema
    same_schema at from full None tally done = absurd (let e = done in cc)
    same_schema at from full (Some table) tally done =
        ap (λ (p : Tally × Database). p.1.schema) (same_value (went (went (went done).2).2).2)

-- a record's payload is within the limit of the table of new records
within : (r : Entry) → IsEntry r → IsWithin (limit_of Second) r
within (Pend name m) h = record { entry = h; payload = h.1.payload }
within (PendCert name m) h = record { entry = h; payload = h.1.payload }
within (Cert name) h = record { entry = h; payload = omega arith }

-- The record is added.
pub record IsAdded (old new : State) (place : ℕ) (r : Entry) : Type 0 where
  pub records : records_of new.now ≡ records_of old.now ++ r ∷ []
  pub counted : IsCounted new.now (place + 1)

-- the rows of the first table are kept when those of the other change
pub first_kept : (s : Schema) (old new : Trees) → HasBoth s
    → AllByRecursion (λ (t : Table). t.tree ≢ tree_of s second_name → new t.tree ≡ old t.tree)
    s.tables → new (tree_of s journal_name) ≡ old (tree_of s journal_name)
first_kept s old new has others =
    let it = found_at s journal_name has.first in
    all_at (λ (t : Table). t.tree ≢ tree_of s second_name → new t.tree ≡ old t.tree)
    s.tables it.at _ others it.there
    (trees_differ s journal_name second_name has.first has.second names_differ)

-- The INSERT of the next record adds this record to those of the journal.
pub adds_record : (old new : State) (place : ℕ) (r : Entry) (count : ℕ) → HasBoth old.now.schema
    → IsCounted old.now place → place < 4294967295 → IsEntry r
    → Executes insert_text (row_of place r) old new (Ok count) → IsAdded old new place r
adds_record old new place r count has h low valid ran =
    let put = puts_record old new place r count has.second ran in
    let stands =
    stands_more old.now new.now (records_of old.now) place r has put.schema h.stands h.place low
    (within r valid) put.rows (first_kept old.now.schema old.now.trees new.now.trees has
    put.others) in
    let records = records_are new.now _ stands in
    record {
      records = records;
      counted = record {
        stands = subst (StandsFor new.now) (sym records) stands;
        place = rw records (omega (arith, h.place, length-append (records_of old.now) (r ∷ [])));
      };
    }

-- After the INSERT of a record, the next position is one more, and agrees with the rows.
pub kept_more : (old new : State) (place : ℕ) (r : Entry) (count : ℕ) → IsKept old place
    → place < 4294967295 → IsEntry r → Executes insert_text (row_of place r) old new (Ok count)
    → IsKept new (place + 1)
kept_more old new place r count h low valid ran =
    let own = writes_in_any _ old new count ran in
    record {
      autocommit = own.mode ∙ h.autocommit;
      settled = own.committed h.autocommit;
      counted =
          λ has. let was = same_first (sym own.schema) has in
          (adds_record old new place r count was (h.counted was) low valid ran).counted;
    }

-- ---- a stop

-- a journal that stands for these records
abbrev IsJournalOf : Trees → List Entry → Type 0
IsJournalOf db records = (journal : IsJournal db) × StandsFor (database_of journal) records

-- a database that has both tables is a journal
abbrev pub journal_of : (s : Schema) (db : Trees) → HasBoth s → IsSound s db → IsJournal db
journal_of s db has sound = record { schema = s; has = (has.first, inl has.second); sound = sound }

-- what the INSERT of a record commits is a journal of the earlier records and this one
pub commits_record : (old : State) (place : ℕ) (r : Entry) (db : Trees) → HasBoth old.now.schema
    → IsCounted old.now place → place < 4294967295 → IsEntry r
    → CommitsBy insert_text (row_of place r) old db → IsJournalOf db (records_of old.now ++ r ∷ [])
commits_record old place r db has h low valid commits =
    let it = put r commits in
    let journal = journal_of old.now.schema db has it.0 in (
      journal,
      stands_more old.now (database_of journal)
          (records_of old.now) place r has refl h.stands h.place low (within r valid) it.1.rows
          (first_kept old.now.schema old.now.trees db has it.1.others),
    )
  where
    put : (r : Entry) → CommitsBy insert_text (row_of place r) old db
        → IsSound old.now.schema db × HasPut old.now
        (record { schema = old.now.schema; trees = db }) (tree_of old.now.schema second_name)
        (kept_of place r)
    put (Pend name m) c =
        commits_put insert_text second_name insert_parsed old place 1 name.sender name.seq m.client
        m.number m.payload db has.second c
    put (PendCert name m) c =
        commits_put insert_text second_name insert_parsed old place 2 name.sender name.seq m.client
        m.number m.payload db has.second c
    put (Cert name) c =
        commits_put insert_text second_name insert_parsed old place 3 name.sender name.seq 0 0
        [] db has.second c

-- While the connection is open, a stop leaves the last commit.
abbrev pub IsSettled : State → Type 0
IsSettled s = (db : Trees) → s.may_leave db → db ≡ s.committed.trees

-- If the last commit is all that a stop leaves, it is a journal of the records that are shown.
pub last_commit : (s : State) (next : ℕ) (db : Trees) → IsSettled s → IsLive s → IsHonestJournal s
    → IsKept s next → s.may_leave db → IsJournalOf db (records_of s.now)
last_commit s next db settled live honest kept left =
    let is : db ≡ s.now.trees =
    settled db left ∙ ap (λ (d : Database). d.trees) (sym kept.settled) in
    let sound : IsJournal s.now.trees =
    journal_of s.now.schema s.now.trees honest.schema (live honest.is_open).0 in
    subst (λ d. IsJournalOf d (records_of s.now)) (sym is)
    (sound, (kept.counted honest.schema).stands)

-- A stop at the INSERT of a record leaves the earlier records, or these and this one.
pub stops_at_insert : (old new : State) (place : ℕ) (r : Entry) → IsInStep old place
    → place < 4294967295 → IsEntry r → IsSettled old → IsLive old
    → Survives old new (CommitsBy insert_text (row_of place r) old) → IsHonestJournal old
    → HasCleanDisk new
    → LeavesOnly new (λ records. (records ≡ records_of old.now)
    ⊎ (records ≡ records_of old.now ++ r ∷ []))
stops_at_insert old new place r step low valid settled live survives honest clean db left =
    let kept = step honest.clean honest.is_open in
    elim (survives.crash clean db left) [
      | inl before ↦ let it =
          last_commit old place db settled live honest kept before in
          (it.0, records_of old.now, it.1, inl refl)
      | inr after ↦ let it =
          commits_record old place r db honest.schema
          (kept.counted honest.schema) low valid after in
          (it.0, records_of old.now ++ r ∷ [], it.1, inr refl)
    ]

-- A stop at a SELECT leaves the earlier records.
pub stops_at_select : (old new : State) (place : ℕ) → IsInStep old place → IsSettled old
    → IsLive old → Survives old new (λ _. ⊥) → IsHonestJournal old → HasCleanDisk new
    → LeavesOnly new (λ records. records ≡ records_of old.now)
stops_at_select old new place step settled live survives honest clean db left =
    elim (survives.crash clean db left) [
      | inl before ↦ let it =
          last_commit old place db settled live honest (step honest.clean honest.is_open) before in
          (it.0, records_of old.now, it.1, refl)
      | inr none ↦ absurd none
    ]

-- ---- reading

-- a SELECT that shows its rows changes nothing
pub unchanged_by_select : (part : Part) (old new : State) (rows : List Row)
    → Shown (select_of part) [] old new rows → IsUnchanged old new
unfolding Shown
unchanged_by_select part old new rows h =
    (rw (reads_in_any (select_of part) (name_of part)
    (select_parsed part) old.now.schema h.0 h.1.is) at h.2).3

-- a refused SELECT changed nothing, or went back to the last commit
pub left_by_query : (part : Part) (old new : State) (e : Error)
    → FailsToQuery (select_of part) [] old new e → IsUnchanged old new ⊎ IsRolledBack old new
unfolding FailsToQuery IsNotRun
left_by_query part old new e (inl (inl none)) = inl none.1
left_by_query part old new e (inl (inr failed)) = inr failed.3
left_by_query part old new e (inr ran) =
    inl (rw (reads_in_any (select_of part) (name_of part)
    (select_parsed part) old.now.schema ran.0 ran.1.is) at ran.2).3

-- the SELECT of a table commits nothing
pub select_commits_nothing : (part : Part) (s : State) (db : Trees)
    → ¬ CommitsShowing (select_of part) [] s db
unfolding CommitsShowing
select_commits_nothing part s db h =
    absurd (let e = rw (reads_in_any (select_of part) (name_of part)
    (select_parsed part) s.now.schema h.0 h.1.is) at h.2 in cc)

module _ (part : Part) (old new : State) (rows : List Row)
    (has : HasTable old.now.schema (name_of part))
    (h : Shown (select_of part) [] old new rows) where
  -- If each row of the table is a record, the SELECT shows the rows of the table.
  pub reads_if_shown : (first : ℕ) (rs : List Entry) → read_from (limit_of part) first rows ≡ Ok rs
      → read_from (limit_of part) first (table_rows old.now (name_of part)) ≡ Ok rs
  reads_if_shown first rs read =
      let same =
      (selects (select_of part) (name_of part) (select_parsed part) old new rows has h).0 in
      let rising = (placed (limit_of part) first rows rs read).rising in
      ap (read_from (limit_of part) first)
      (rows_there old.now (name_of part) has
      ∙ sort_is by_pos by_pos_total _ rows rising (IsPermutation-sym _ _ same)) ∙ read

  -- If the rows of the table are records, the SELECT shows these rows.
  pub shown_if_read : (first : ℕ) (rs : List Entry)
      → read_from (limit_of part) first (table_rows old.now (name_of part)) ≡ Ok rs
      → read_from (limit_of part) first rows ≡ Ok rs
  shown_if_read first rs all =
      let tree = tree_of old.now.schema (name_of part) in
      let got = selects (select_of part) (name_of part) (select_parsed part) old new rows has h in
      let read =
      ap (read_from (limit_of part) first) (sym (rows_there old.now (name_of part) has))
      ∙ all in
      let at = placed (limit_of part) first (rows_in tree old.now.trees) rs read in
      let same =
      IsPermutation-trans _ _ _ (IsPermutation-sort_by by_pos by_pos_total
      (map shown (old.now.trees tree))) got.0 in
      ap (read_from (limit_of part) first)
      (sorted_unique by_pos by_pos_total (rows_in tree old.now.trees) rows at.rising same got.1)
      ∙ read

-- ---- the calls

-- if the disk is clean after a call, it was clean before
pub earlier_clean : (old new : State) → doubt old.is_clean ≤ doubt new.is_clean → HasCleanDisk new
    → HasCleanDisk old
earlier_clean old new below clean = omega arith

-- An INSERT of the next record that succeeds appends this record to the journal.
pub appended : (old new : State) (place : ℕ) (r : Entry) (count : ℕ) → IsInStep old place
    → place < 4294967295 → IsEntry r → doubt old.is_clean ≤ doubt new.is_clean
    → (HasCleanDisk new → Executes insert_text (row_of place r) old new (Ok count))
    → IsAppended old new place r
appended old new place r count step low valid below ran =
    let own =
    λ (clean : HasCleanDisk new). writes_in_any (row_of place r) old new count (ran clean) in
    let was =
    λ (clean : HasCleanDisk new).
    step (earlier_clean old new below clean) (own clean).was_open in
    record {
      kept = λ clean is_open. kept_more old new place r count (was clean) low valid (ran clean);
      honest =
          λ h. record {
            clean = earlier_clean old new below h.clean;
            is_open =
                (own h.clean).was_open;
            schema = same_first (sym (own h.clean).schema) h.schema;
          };
      alive =
          λ was clean. record {
            clean = clean;
            is_open = (own clean).is_open;
            schema =
                same_first (own clean).schema was.schema;
          };
      records =
          λ h. let has = same_first (sym (own h.clean).schema) h.schema in
          (adds_record old new place r count has ((was h.clean).counted has) low valid
          (ran h.clean)).records;
    }

was_open : (old new : State) → IsUnchanged old new ⊎ IsRolledBack old new → IsTrue new.is_open
    → IsTrue old.is_open
was_open old new (inl same) is_open = same.0.was_open
was_open old new (inr undone) is_open = undone.was_open is_open

same_if_left : (old new : State) → old.now ≡ old.committed
    → IsUnchanged old new ⊎ IsRolledBack old new → IsSame old new
same_if_left old new settled (inl same) = same_if_unchanged old new same
same_if_left old new settled (inr undone) = same_if_undone old new settled undone

-- A call that changed nothing or rolled back leaves the records and the next position as they were.
pub left : (old new : State) (place : ℕ) → IsInStep old place
    → doubt old.is_clean ≤ doubt new.is_clean
    → (HasCleanDisk new → IsUnchanged old new ⊎ IsRolledBack old new) → IsLeft old new place
left old new place step below how =
    let was =
    λ (clean : HasCleanDisk new) (is_open : IsTrue new.is_open).
    step (earlier_clean old new below clean) (was_open old new (how clean) is_open) in
    let same =
    λ (clean : HasCleanDisk new) (is_open : IsTrue new.is_open).
    same_if_left old new (was clean is_open).settled (how clean) in
    record {
      kept =
          λ clean is_open. kept_same old new place is_open (same clean is_open) (was clean is_open);
      honest = λ h. record {
        clean = earlier_clean old new below h.clean;
        is_open = was_open old new (how h.clean) h.is_open;
        schema = same_journal (sym ((same h.clean h.is_open).now_is h.is_open)) h.schema;
      };
      alive =
          λ h clean is_open. record {
            clean = clean;
            is_open = is_open;
            schema =
                same_journal ((same clean is_open).now_is is_open) h.schema;
          };
      records =
          λ h. ap (λ (d : Database). records_of d) ((same h.clean h.is_open).now_is h.is_open);
    }

-- If an honest journal refuses to be read, the cause is no bad row.
pub not_bad : (old new : State) (place : ℕ) (e : StoreFault) → IsInStep old place
    → doubt old.is_clean ≤ doubt new.is_clean
    → (HasCleanDisk new → IsUnchanged old new ⊎ IsRolledBack old new)
    → (HasCleanDisk new → HasBoth old.now.schema → (next : ℕ) → IsCounted old.now next
    → is_bad_row e ≡ false) → IsHonestJournal new → is_bad_row e ≡ false
not_bad old new place e step below how sound honest =
    let was = (left old new place step below how).honest honest in
    sound honest.clean was.schema place ((step was.clean was.is_open).counted was.schema)

-- If a journal was honest before it refuses to be read, the cause is no bad row.
pub honest_before : (old new : State) (place : ℕ) (e : StoreFault) → IsInStep old place
    → (HasCleanDisk new → HasBoth old.now.schema → (next : ℕ) → IsCounted old.now next
    → is_bad_row e ≡ false)
    → IsHonestJournal old → HasCleanDisk new → is_bad_row e ≡ false
honest_before old new place e step sound was clean =
    sound clean was.schema place ((step was.clean was.is_open).counted was.schema)

-- If a fault had shut the journal, the cause of a refusal is no bad row.
pub shut_before : (old new : State) (e : StoreFault) → IsShutJournal old
    → ((place : ℕ) → e ≡ BadRow place → IsUnchanged old new) → is_bad_row e ≡ false
shut_before old new (BadRow place) shut same = absurd (shut (same place refl).0.was_open)
shut_before old new NoMemory shut same = refl
shut_before old new Device shut same = refl
shut_before old new (Place next) shut same = refl

-- a SELECT shows the rows of its table, in an order that their pos allows
pub in_order : (part : Part) (old new : State) (rows : List Row)
    → HasTable old.now.schema (name_of part) → Shown (select_of part) [] old new rows
    → IsInOrder (tree_of old.now.schema (name_of part)) old.now.trees rows
in_order part old new rows has h =
    let got = selects (select_of part) (name_of part) (select_parsed part) old new rows has h in
    record { same = got.0; sorted = got.1 }

-- Between two calls, a stop leaves the records.
pub stops_now : (s : State) (next : ℕ) → IsInStep s next → (IsTrue s.is_open → IsSettled s)
    → IsLive s → IsSafeAtRest s
stops_now s next step settled live honest db left =
    let it =
    last_commit s next db (settled honest.is_open) live honest
    (step honest.clean honest.is_open) left in (it.0, records_of s.now, it.1, refl)

-- ---- what stays committed

-- a call that changed nothing or rolled back committed nothing
pub keeps_if_left : (old new : State) → IsUnchanged old new ⊎ IsRolledBack old new
    → KeepsCommit old new
keeps_if_left old new (inl same) =
    record { was_open = λ _. same.0.was_open; committed = λ _. same.0.committed_is }
keeps_if_left old new (inr undone) =
    record { was_open = undone.was_open; committed = λ is_open. (undone.undone is_open).1 }

-- two calls that commit nothing, one after the other, commit nothing
pub keeps_then : (a b c : State) → KeepsCommit a b → KeepsCommit b c → KeepsCommit a c
keeps_then a b c p q = record {
  was_open = λ h. p.was_open (q.was_open h);
  committed =
      λ h. q.committed h ∙ p.committed (q.was_open h);
}
