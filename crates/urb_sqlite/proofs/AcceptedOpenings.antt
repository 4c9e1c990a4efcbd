-- Opening both tables, one after the other.
use Rattle.urb_sqlite.proofs.Common.{AddsTable, CommitsBy, CommitsEither, Database, Err, First}
use Rattle.urb_sqlite.proofs.Common.{HasBoth, HasCleanDisk, HasJournal, HasTable, IfOk, IsAdoptable}
use Rattle.urb_sqlite.proofs.Common.{IsCounted, IsHonestJournal, IsInStep, IsMade, IsPartOpened}
use Rattle.urb_sqlite.proofs.Common.{IsRead, IsTakenOver, Lacks, List, None, Ok, OnOk, Option}
use Rattle.urb_sqlite.proofs.Common.{Result, Second, Some, StandsFor, Survives, [], ap, arith}
use Rattle.urb_sqlite.proofs.Common.{create_text, false, has_table, inl, inr, is_journal}
use Rattle.urb_sqlite.proofs.Common.{journal_name, length, length-append, limit_of, option_map}
use Rattle.urb_sqlite.proofs.Common.{read_from, records_of, refl, second_name, second_text, subst}
use Rattle.urb_sqlite.proofs.Common.{survives_then, sym, table_of, table_rows, true, unwrap_or, ℕ}
use Rattle.urb_sqlite.proofs.Common.{◌++◌, ◌+◌, ◌∙◌, ◌≡◌, ◌⊎◌}
use Rattle.sqlite.specs.Schema.{Schema}
use Rattle.sqlite.specs.State.{State}
use Rattle.sqlite.specs.Table.{Table}
use Rattle.urb_sqlite.specs.internal.JournalChanges.{MakesAtMost}
use Rattle.urb_sqlite.proofs.AddedTables.{has_before, table_stays}
use Rattle.urb_sqlite.proofs.CreateStatement.{commits_one}
use Rattle.urb_sqlite.proofs.KeptRecords.{earlier_clean}
use Rattle.urb_sqlite.proofs.StatementTexts.{create_parsed}
use Rattle.urb_sqlite.proofs.OpenedTables.{rows_kept, rows_none, stands_made, stands_read}
use Rattle.urb_sqlite.proofs.StoredRows.{rows_absent, stands_same}
use Rattle.urb_sqlite.proofs.TableOpenings.{none_read}

-- what holds of an answer

-- if the value of an `Ok` has P, and Q follows from P, then Q holds after an `Ok`
pub when_ok : {X E : Type 0} (r : Result X E) (P : X → Type 0) (Q : Type 0) → ((x : X) → P x → Q)
    → IfOk r P → OnOk r Q
when_ok (Ok x) P Q f h = f x h
when_ok (Err e) P Q f h = tt

-- ---- what stood before a table was added

-- a table of that shape is some table
record Some_table (s : Schema) (name : List ℕ) : Type 0 where
  table : Table
  there : table_of s name ≡ Some table

shaped : (s : Schema) (name : List ℕ) → has_table name s ≡ true → Some_table s name
shaped s name ready = go (table_of s name) refl ready
  where
    go : (o : Option Table) → table_of s name ≡ o
        → unwrap_or (option_map (is_journal name) o) false ≡ true → Some_table s name
    go None is ready = absurd (let e = ready in cc)
    go (Some t) is ready = record { table = t; there = is }

shape_stays : (s k : Schema) (more : List Table) (name : List ℕ) → k.tables ≡ s.tables ++ more
    → has_table name s ≡ true → has_table name k ≡ true
shape_stays s k more name behind ready =
    let it = shaped s name ready in
    let same : table_of k name ≡ table_of s name =
    table_stays s k more behind name it.table it.there ∙ sym it.there in
    ap (λ (o : Option Table). unwrap_or (option_map (is_journal name) o) false) same ∙ ready

-- the first table as it is read once the second is there
read_still : (mid new : Database) (place : ℕ) → has_table journal_name mid.schema ≡ true
    → AddsTable mid new second_name → (HasTable mid.schema journal_name → IsRead mid First 1 place)
    → HasTable new.schema journal_name → IsRead new First 1 place
read_still mid new place ready adds read has =
    let it = shaped mid.schema journal_name ready in
    let was =
    has_before mid.schema new.schema adds.longer.more adds.longer.tables journal_name it.table
    it.there has in
    let one = read was in
    record {
      records = one.records;
      read =
          ap (read_from (limit_of First) 1) (rows_kept mid new journal_name second_name adds was)
          ∙ one.read;
      place = one.place;
    }

counted_by : (d : Database) (place next : ℕ) → IsRead d First 1 place → IsRead d Second place next
    → IsCounted d next
counted_by d place next one two =
    let at : place ≡ 1 + length one.records = one.place in
    let more : read_from (limit_of Second) (1 + length one.records) (table_rows d second_name)
    ≡ Ok two.records = ap (λ n. read_from (limit_of Second) n (table_rows d second_name))
    (sym at) ∙ two.read in
    let it = stands_read d one.records two.records one.read more in
    let count : length (records_of d) ≡ length one.records + length two.records =
    ap length it.0 ∙ length-append one.records two.records in
    record {
      stands = subst (StandsFor d) (sym it.0) it.1;
      place = omega (arith, two.place, at, count);
    }

-- The second table is still absent once the first is there.
abbrev pub StaysApart : State → State → Type 0
StaysApart old mid = Lacks old.now.schema second_name → Lacks mid.now.schema second_name

module _ (old mid new : State) (place next : ℕ) (one : IsPartOpened old mid First 1 place)
    (two : IsPartOpened mid new Second place next) where
  first_table : has_table journal_name new.now.schema ≡ true
  first_table = elim two.most [
    | inl same ↦ ap (λ (d : Database). has_table journal_name d.schema) same.0.now_is ∙ one.table
    | inr made ↦ shape_stays mid.now.schema new.now.schema made.adds.longer.more journal_name
        made.adds.longer.tables one.table
  ]

  read_first : HasTable new.now.schema journal_name → IsRead new.now First 1 place
  read_first has = elim two.most [
    | inl same ↦ subst (λ (d : Database). IsRead d First 1 place) (sym same.0.now_is)
        (one.read (subst (λ (d : Database). HasTable d.schema journal_name) same.0.now_is has))
    | inr made ↦ read_still mid.now new.now place one.table made.adds one.read has
  ]

  counted : HasBoth new.now.schema → IsCounted new.now next
  counted has = counted_by new.now place next (read_first has.first) (two.read has.second)

  in_step : IsInStep new next
  in_step clean is_open = record
      { autocommit = two.autocommit; settled = two.settled is_open; counted = counted }

  -- making the second table after the first doesn't change what the first stands for
  both_made : HasTable mid.now.schema journal_name → IsMade mid new second_name
      → HasBoth new.now.schema
  both_made has made = record {
    first = (made.adds.keeps journal_name has).0;
    second =
        made.adds.has;
  }

  found_journal : HasCleanDisk new → HasJournal old.now.schema
      → IsHonestJournal new × StandsFor old.now (records_of new.now)
  found_journal clean has =
      let same = one.found has.0 in
      let first : HasTable mid.now.schema journal_name =
      subst (λ (d : Database). HasTable d.schema journal_name) (sym same.0.now_is) has.0 in
      elim has.1 [
        | inl second ↦
            let still =
            two.found (subst (λ (d : Database). HasTable d.schema second_name)
            (sym same.0.now_is) second) in
            let is : new.now ≡ old.now = still.0.now_is ∙ same.0.now_is in
            let both : HasBoth new.now.schema =
            subst (λ (d : Database). HasBoth d.schema) (sym is)
            (record { first = has.0; second = second }) in (
              record { clean = clean; is_open = still.0.is_open; schema = both },
              subst (λ (d : Database). StandsFor d (records_of new.now)) is (counted both).stands,
            )
        | inr none ↦
            let lacks : Lacks mid.now.schema second_name =
            subst (λ (d : Database). Lacks d.schema second_name) (sym same.0.now_is) none in
            let made = two.made lacks in
            let both = both_made first made in (
              record { clean = clean; is_open = made.is_open; schema = both },
              subst (λ (d : Database). StandsFor d (records_of new.now)) same.0.now_is
                  (stands_made mid.now new.now (records_of new.now) first lacks made.adds
                  (counted both).stands),
            )
      ]

  -- if only the second table exists, the first is made after it
  found_second : HasCleanDisk new → Lacks old.now.schema journal_name
      → HasTable old.now.schema second_name
      → IsHonestJournal new × StandsFor old.now (records_of new.now)
  found_second clean none second =
      let begun = one.made none in
      let kept = (begun.adds.keeps second_name second).0 in
      let still = two.found kept in
      let both : HasBoth new.now.schema =
      subst (λ (d : Database). HasBoth d.schema) (sym still.0.now_is)
      (record { first = begun.adds.has; second = kept }) in
      let stands : StandsFor mid.now (records_of new.now) =
      subst (λ (d : Database). StandsFor d (records_of new.now)) still.0.now_is
      (counted both).stands in (
        record { clean = clean; is_open = still.0.is_open; schema = both },
        stands_same mid.now old.now (records_of new.now)
            (rows_absent old.now journal_name none
            ∙ sym (rows_none old.now mid.now journal_name begun.adds))
            (sym (rows_kept old.now mid.now second_name journal_name begun.adds second)) stands,
      )

  -- After both tables were made, neither has a row.
  record AreMade : Type 0 where
    honest : IsHonestJournal new
    first : table_rows new.now journal_name ≡ []
    second : table_rows new.now second_name ≡ []

  are_made : HasCleanDisk new → Lacks old.now.schema journal_name → Lacks mid.now.schema second_name
      → AreMade
  are_made clean none lacks =
      let begun = one.made none in
      let made = two.made lacks in
      record {
        honest = record {
          clean = clean;
          is_open = made.is_open;
          schema =
              both_made begun.adds.has made;
        };
        first =
            rows_kept mid.now new.now journal_name second_name made.adds begun.adds.has
            ∙ rows_none old.now mid.now journal_name begun.adds;
        second = rows_none mid.now new.now second_name made.adds;
      }

  found : HasCleanDisk new → StaysApart old mid → IsAdoptable old.now.schema
      → IsHonestJournal new × StandsFor old.now (records_of new.now)
  found clean apart (inl has, second) = found_journal clean (has, second)
  found clean apart (inr none, inl second) = found_second clean none second
  found clean apart (inr none, inr lacks) =
      let made = are_made clean none (apart lacks) in (
        made.honest,
        stands_same new.now old.now (records_of new.now)
            (rows_absent old.now journal_name none ∙ sym made.first)
            (rows_absent old.now second_name lacks ∙ sym made.second)
            (counted made.honest.schema).stands,
      )

  fresh : HasCleanDisk new → StaysApart old mid → Lacks old.now.schema journal_name
      → Lacks old.now.schema second_name → IsHonestJournal new × (records_of new.now ≡ [])
  fresh clean apart none lacks =
      let made = are_made clean none (apart lacks) in
      (made.honest, no_records new.now made.first made.second)
    where
      no_records : (d : Database) → table_rows d journal_name ≡ [] → table_rows d second_name ≡ []
          → records_of d ≡ []
      no_records d first second =
          let none : read_from (limit_of First) 1 (table_rows d journal_name) ≡ Ok [] =
          ap (read_from (limit_of First) 1) first ∙ none_read (limit_of First) 1 in
          let more : read_from (limit_of Second) 1 (table_rows d second_name) ≡ Ok [] =
          ap (read_from (limit_of Second) 1) second ∙ none_read (limit_of Second) 1 in
          (stands_read d [] [] none more).0

-- a stop inside either opening
pub stops_over : (old mid new : State) → (HasCleanDisk mid → MakesAtMost old mid journal_name)
    → Survives old mid (CommitsBy create_text [] old)
    → Survives mid new (CommitsBy second_text [] mid) → Survives old new (CommitsEither old)
stops_over old mid new most one two =
    survives_then old mid new (CommitsBy create_text [] old) (CommitsBy second_text [] mid)
    (CommitsEither old) (λ clean db by. inl by)
    (λ clean db by. inr (
      mid.now,
      between (earlier_clean mid new two.clean clean),
      commits_one second_text second_name (create_parsed Second) mid db by,
    )) one two
  where
    between : HasCleanDisk mid → (mid.now ≡ old.now) ⊎ AddsTable old.now mid.now journal_name
    between clean = elim (most clean) [ inl same ↦ inl same.0.now_is | inr made ↦ inr made.adds ]

-- both tables after both openings
module _ (old mid new : State) (place next : ℕ)
    (one : HasCleanDisk mid → IsPartOpened old mid First 1 place)
    (two : HasCleanDisk new → IsPartOpened mid new Second place next)
    (first : Survives old mid (CommitsBy create_text [] old))
    (second : Survives mid new (CommitsBy second_text [] mid)) where
  before : HasCleanDisk new → IsPartOpened old mid First 1 place
  before clean = one (earlier_clean mid new second.clean clean)

  -- after both tables were opened, the next position agrees with the rows
  pub kept_over : IsInStep new next
  kept_over clean = in_step old mid new place next (before clean) (two clean) clean

  -- if both tables were opened, the database is taken over as a journal, and its rows are the
  -- records
  pub taken_over : (HasCleanDisk mid → StaysApart old mid) → IsTakenOver old new
  taken_over apart =
      let stays : HasCleanDisk new → StaysApart old mid =
      λ clean. apart (earlier_clean mid new second.clean clean) in
      record {
        first = λ clean. first_table old mid new place next (before clean) (two clean);
        second = λ clean. (two clean).table;
        fresh = λ clean.
            fresh old mid new place next (before clean) (two clean) clean (stays clean);
        found = λ clean.
            found old mid new place next (before clean) (two clean) clean (stays clean);
        stop = stops_over old mid new (λ clean. (one clean).most) first second;
      }
