-- Reading the rows of a table one by one, from a cursor.
use Rattle.urb_sqlite.proofs.Common.{CommitsShowing, Compiled, Database, Device, Entry, Err, Error}
use Rattle.urb_sqlite.proofs.Common.{FailsToQuery, HasCleanDisk, HasTable, Held, IfErr, IsFirstBad}
use Rattle.urb_sqlite.proofs.Common.{IsInOrder, IsRolledBack, IsUnchanged, List, MAX_PAYLOAD}
use Rattle.urb_sqlite.proofs.Common.{NoMemory, None, Ok, OnErr, Option, Part, Place, Result, Row}
use Rattle.urb_sqlite.proofs.Common.{Some, StoreFault, Survives, [], ap, ap₂, arith, command_of}
use Rattle.urb_sqlite.proofs.Common.{extended, false, inl, inr, is_bad_row, joined, length}
use Rattle.urb_sqlite.proofs.Common.{limit_of, name_of, read_from, reads_listing, record_at, refl}
use Rattle.urb_sqlite.proofs.Common.{select_of, state, subst, survives_weaker, sym, table_rows}
use Rattle.urb_sqlite.proofs.Common.{tree_of, understood, ℕ, ◌++◌, ◌+◌, ◌∙◌, ◌∷◌, ◌≡◌, ◌≤◌, ◌⊎◌}
use Rattle.sqlite.specs.Clock.{timed}
use Rattle.sqlite_trees.specs.declared.store.Store.{Ghosts}
use Rattle.sqlite_schema.specs.declared.schema.Schema.{Schema}
use Rattle.sqlite_resolve.specs.declared.error.CompileError.{CompileError}
use Rattle.sqlite.specs.Listing.{IsSourceOf}
use Rattle.sqlite.specs.Given.{GivesOn, HasBegun, HasGiven, IsRefused, Returns}
use Rattle.sqlite.specs.State.{Begins, IsStatement, Shown, ShowsRows, State}
use Rattle.sqlite.proofs.Callers.{EndsIn, begins_shown, given_begin}
use Rattle.urb_stable.specs.declared.stable.StoreFault.TheVariants.{BadRow}
use Rattle.urb_sqlite.proofs.StatementTexts.{select_is, select_parsed}
use Rattle.urb_sqlite.proofs.AnySchema.{reads_in_any}
use Rattle.urb_sqlite.proofs.SpelledRows.{first_bad, went_on}
use Rattle.urb_sqlite.proofs.KeptRecords.{in_order, left_by_query, select_commits_nothing}
use Rattle.urb_sqlite.proofs.KeptRecords.{shown_if_read}
use Rattle.urb_sqlite.proofs.TableReadings.{unchanged_then}

-- ---- rows behind others

extended_none : (all : Result (List Entry) ℕ) → extended [] all ≡ all
extended_none (Ok rs) = refl
extended_none (Err bad) = refl

joined_extended : (place : ℕ) (r : Entry) (done : List Entry) (rest : Result (List Entry) ℕ)
    → joined place (Some r) (extended done rest) ≡ extended (r ∷ done) rest
joined_extended place r done (Ok rs) = refl
joined_extended place r done (Err bad) = refl

module _ (limit : ℕ) where
  -- rows after those of records are read at the places after theirs
  read_behind : (first : ℕ) (rows more : List Row) (rs : List Entry)
      → read_from limit first rows ≡ Ok rs
      → read_from limit first (rows ++ more) ≡ extended rs
      (read_from limit (first + length rs) more)
  unfolding read_from
  read_behind first [] more rs h =
      let e : [] ≡ rs = cc in
      let here : first ≡ first + 0 = omega arith in
      subst (λ rs. read_from limit first more ≡ extended rs
      (read_from limit (first + length rs) more)) e
      (ap (λ k. read_from limit k more) here ∙ sym (extended_none _))
  read_behind first (row ∷ rows) more rs h =
      let on = went_on first (record_at limit first row) (read_from limit (first + 1) rows) rs h in
      let later = read_behind (first + 1) rows more on.2 on.3 in
      let here : first + 1 + length on.2 ≡ first + length (on.0 ∷ on.2) = omega arith in
      subst (λ rs. joined first (record_at limit first row)
      (read_from limit (first + 1) (rows ++ more))
      ≡ extended rs (read_from limit (first + length rs) more)) (sym on.4)
      (ap₂ (joined first) on.1 (later ∙ ap (λ k. extended on.2 (read_from limit k more)) here)
      ∙ joined_extended first on.0 on.2 _)

  -- one more row
  read_one : (first place : ℕ) (rows : List Row) (rs : List Entry) (row : Row)
      → read_from limit first rows ≡ Ok rs → place ≡ first + length rs
      → read_from limit first (rows ++ row ∷ []) ≡ extended rs
      (joined place (record_at limit place row) (Ok []))
  unfolding read_from
  read_one first place rows rs row h at =
      read_behind first rows (row ∷ []) rs h
      ∙ ap (λ k. extended rs (read_from limit k (row ∷ []))) (sym at)

  -- a row that is a record, after the rows of records, is read as one more record
  pub read_more : (first place : ℕ) (rows : List Row) (rs : List Entry) (row : Row) (r : Entry)
      → read_from limit first rows ≡ Ok rs → place ≡ first + length rs
      → record_at limit place row ≡ Some r
      → read_from limit first (rows ++ row ∷ []) ≡ Ok (rs ++ r ∷ [])
  read_more first place rows rs row r h at found =
      read_one first place rows rs row h at ∙ ap (λ o. extended rs (joined place o (Ok []))) found

  -- a row that is no record, after the rows of records, is the first bad one
  pub read_bad : (first place : ℕ) (rows : List Row) (rs : List Entry) (row : Row)
      → read_from limit first rows ≡ Ok rs → place ≡ first + length rs
      → record_at limit place row ≡ None
      → read_from limit first (rows ++ row ∷ []) ≡ Err place
  read_bad first place rows rs row h at none =
      read_one first place rows rs row h at ∙ ap (λ o. extended rs (joined place o (Ok []))) none

  -- a bad row stays the first bad one, whatever comes after it
  pub stays_bad : (first : ℕ) (rows more : List Row) (bad : ℕ)
      → read_from limit first rows ≡ Err bad
      → read_from limit first (rows ++ more) ≡ Err bad
  unfolding read_from
  stays_bad first [] more bad h = absurd (let n = h in cc)
  stays_bad first (row ∷ rows) more bad h =
      go (stays_bad (first + 1) rows more) (record_at limit first row)
      (read_from limit (first + 1) rows) refl h
    where
      go : ((bad : ℕ) → read_from limit (first + 1) rows ≡ Err bad
          → read_from limit (first + 1) (rows ++ more) ≡ Err bad)
          → (found : Option Entry) (rest : Result (List Entry) ℕ)
          → read_from limit (first + 1) rows ≡ rest
          → joined first found rest ≡ Err bad
          → joined first found (read_from limit (first + 1) (rows ++ more)) ≡ Err bad
      go further None rest is h = h
      go further (Some r) (Ok rs) is h = absurd (let n = h in cc)
      go further (Some r) (Err b) is h =
          let same : b ≡ bad = cc in ap (joined first (Some r)) (further b is) ∙ ap Err same

  -- no rows are read as no records
  pub read_nothing : (first : ℕ) → read_from limit first [] ≡ Ok []
  unfolding read_from
  read_nothing first = refl

-- ---- what a cursor has given

never_returns : (part : Part) (s : Schema) → ¬ Returns (understood s (select_of part))
never_returns part s = go (understood s (select_of part)) refl
  where
    go : (r : Result Compiled CompileError) → understood s (select_of part) ≡ r → ¬ Returns r
    go (Ok c) is some =
        absurd (let e = rw (reads_in_any (select_of part) (name_of part)
        (select_parsed part) s c is) at some in cc)
    go (Err e) is some = some

-- a prefix of an answer after a call that changes nothing was a prefix of the answer before
begins_before : (sql : List ℕ) (params : Row) (old new : State) (rows : List Row)
    → new.now ≡ old.now
    → Begins sql params new rows → Begins sql params old rows
unfolding Begins
begins_before sql params old new rows same h = (
  h.0,
  record {
    is = subst (λ (d : Database). understood d.schema sql ≡ Ok h.0) same h.1.is;
    whole = h.1.whole;
    given = h.1.given;
    now = h.1.now;
  },
  h.2,
  h.3,
  subst (λ (d : Database). IsSourceOf (reads_listing d.schema sql) d h.3) same h.4,
  h.5,
)

-- what is shown after a call that changes nothing would be shown before
shown_before : (part : Part) (old mid new : State) (rows : List Row) → IsUnchanged old mid
    → Shown (select_of part) [] mid new rows → Shown (select_of part) [] old new rows
unfolding Shown
shown_before part old mid new rows same h =
    let sql = select_of part in
    let now = same.0.now_is in
    let full = timed [] h.0.formats h.1.now in
    let none = reads_in_any sql (name_of part) (select_parsed part) mid.now.schema h.0 h.1.is in
    let it = rw none at h.2 in (
      h.0,
      record {
        is = subst (λ (d : Database). understood d.schema sql ≡ Ok h.0) now h.1.is;
        whole = h.1.whole;
        given = h.1.given;
        now = h.1.now;
      },
      subst (ShowsRows old new sql h.0 full rows) (sym none) (
        it.0,
        subst (λ (d : Database). IsSourceOf (reads_listing d.schema sql) d it.0) now it.1,
        it.2,
        unchanged_then old mid new same it.3,
      ),
    )

-- The rows that the cursor has given are these records, and nothing has changed.
pub record HasReadTo {S : Type 0} (g : Ghosts S) (part : Part) (limit first : ℕ) (old : State)
    (h : Held S) (records : List Entry) : Type 0 where
  pub given : List Row
  pub has : HasGiven g (select_of part) [] h given
  pub same : IsUnchanged old (state g h)
  pub read : read_from limit first given ≡ Ok records

-- The rows that the cursor has given end with the bad one at this place.
pub record MeetsBadRow (part : Part) (limit first : ℕ) (old : State) (place : ℕ) : Type 0 where
  pub rows : List Row
  pub begins : Begins (select_of part) [] old rows
  pub read : read_from limit first rows ≡ Err place

-- the query begins
module _ {S : Type 0} (g : Ghosts S) (part : Part) (sql : List ℕ) (is : sql ≡ select_of part)
    (old new : Held S) where
  -- A SELECT commits nothing, so a crash at its start leaves only what it could leave before.
  pub start_stops : Survives (state g old) (state g new) (CommitsShowing sql [] (state g old))
      → Survives (state g old) (state g new) (λ _. ⊥)
  start_stops h =
      survives_weaker (state g old) (state g new) _ _
      (λ _ db. select_commits_nothing part (state g old) db)
      (subst (λ q. Survives (state g old) (state g new) (CommitsShowing q [] (state g old))) is h)

  -- a cursor that has begun has given no rows, and nothing has changed
  pub reads_none : (limit first : ℕ) → HasBegun g sql [] old new
      → HasReadTo g part limit first (state g old) new []
  reads_none limit first h = go (subst (λ q. HasBegun g q [] old new) is h)
    where
      go : HasBegun g (select_of part) [] old new
          → HasReadTo g part limit first (state g old) new []
      go (inl h) = record { given = []; has = h.0; same = h.1; read = read_nothing limit first }
      go (inr h) = absurd (never_returns part old.schema h.0)

  -- or it is refused
  module _ {X : Type 0} (result : Result X Error) (e : Error) (failed : result ≡ Err e)
      (h : OnErr result (IsRefused g sql [] old result new)) where
    refused : IsRefused g sql [] old result new
    refused = subst (λ r. OnErr r (IsRefused g sql [] old result new)) failed h

    -- a crash after a refused query leaves only what it could leave before
    pub refused_stops : Survives (state g old) (state g new) (λ _. ⊥)
    refused_stops = start_stops refused.survives

    -- a refused query changed nothing, or went back to the last commit
    pub refused_left : HasCleanDisk (state g new)
        → IsUnchanged (state g old) (state g new) ⊎ IsRolledBack (state g old) (state g new)
    refused_left clean =
        let fails =
        subst (λ r. IfErr r (FailsToQuery sql [] (state g old) (state g new))) failed
        (refused.err clean) in
        left_by_query part (state g old) (state g new) e
        (subst (λ q. FailsToQuery q [] (state g old) (state g new) e) is fails)

-- the query moves on
module _ {S : Type 0} (g : Ghosts S) (part : Part) (limit first : ℕ) (old : State)
    (mid new : Held S) (records : List Entry)
    (h : HasReadTo g part limit first old mid records) (got : Option Row)
    (on : GivesOn g (select_of part) [] mid new h.given got) where
  module _ (same : IsUnchanged (state g mid) (state g new)) (place : ℕ) (row : Row)
      (is : got ≡ Some row) (at : place ≡ first + length records) where
    given_on : HasGiven g (select_of part) [] new (h.given ++ row ∷ [])
    given_on = subst (GivesOn g (select_of part) [] mid new h.given) is on

    -- a row that is the record of its place is one more record that the cursor has given
    pub reads_on : (r : Entry) → record_at limit place row ≡ Some r
        → HasReadTo g part limit first old new (records ++ r ∷ [])
    reads_on r found = record {
      given = h.given ++ row ∷ [];
      has = given_on;
      same = unchanged_then old (state g mid) (state g new) h.same same;
      read = read_more limit first place h.given records row r h.read at found;
    }

    -- a row that is no record of its place is the bad row that the cursor meets
    pub meets_bad : record_at limit place row ≡ None → MeetsBadRow part limit first old place
    meets_bad none =
        let still = unchanged_then old (state g mid) (state g new) h.same same in
        record {
          rows = h.given ++ row ∷ [];
          begins = begins_before (select_of part) [] old (state g new) _ still.0.now_is
              (given_begin g (select_of part) [] new _ given_on);
          read = read_bad limit first place h.given records row h.read at none;
        }

  -- a cursor that gives no more rows has given the whole answer of the query
  pub reads_all : got ≡ None → Shown (select_of part) [] old (state g new) h.given
  reads_all is =
      shown_before part old (state g mid) (state g new) h.given h.same
      (subst (GivesOn g (select_of part) [] mid new h.given) is on)

-- ---- the whole table behind a bad row

module _ (part : Part) (old new : State) (has : HasTable old.now.schema (name_of part)) (first : ℕ)
    (rows : List Row) (place : ℕ)
    (begins : Begins (select_of part) [] old rows) (same : IsUnchanged old new)
    (read : read_from (limit_of part) first rows ≡ Err place) where
  -- the query has no recursion, so the rest of its answer is determined
  rest : (tail : List Row) × Shown (select_of part) [] old new (rows ++ tail)
  rest = begins_shown (select_of part) [] old new rows begins same ends
    where
      ends : (c : Compiled) (db : Database) (it : IsStatement old (select_of part) [] c)
          → IsSourceOf (reads_listing old.now.schema (select_of part)) old.now db
          → EndsIn c.command db (timed [] c.formats it.now)
      ends c db it source =
          let is =
          select_is old.now.schema (select_of part) (name_of part) has (select_parsed part) in
          let command = sym (ap command_of it.is) ∙ is.command_is in
          subst (λ k. EndsIn k db (timed [] c.formats it.now)) (sym command) tt

  -- a bad row that the cursor meets is the first one in the rows of the whole table, in order of
  -- pos
  pub bad_in_table : limit_of part ≤ MAX_PAYLOAD → first ≤ 4294967295
      → (all : List Row) × IsInOrder (tree_of old.now.schema (name_of part)) old.now.trees all
      × IsFirstBad (limit_of part) first all place
  bad_in_table most low = (
    rows ++ rest.0,
    in_order part old new _ has rest.1,
    first_bad (limit_of part) most first _ place low
        (stays_bad (limit_of part) first rows rest.0 place read),
  )

  -- if the cursor meets a bad row, the rows of the table are not all records
  pub no_records : (rs : List Entry)
      → read_from (limit_of part) first (table_rows old.now (name_of part)) ≡ Ok rs → ⊥
  no_records rs all =
      let whole = shown_if_read part old new _ has rest.1 first rs all in
      absurd (let n : Ok rs ≡ Err place =
      sym whole ∙ stays_bad (limit_of part) first rows rest.0 place read in cc)

-- ---- faults

-- what holds in any case holds after an `Err`
pub on_err : {X E : Type 0} (P : Type 0) (r : Result X E) → P → OnErr r P
on_err P (Ok x) p = tt
on_err P (Err e) p = p

-- a fault that is `BadRow` for no place isn't one of a bad row
pub no_bad_row : (e : StoreFault) → ((place : ℕ) → e ≡ BadRow place → ⊥) → is_bad_row e ≡ false
no_bad_row NoMemory none = refl
no_bad_row Device none = refl
no_bad_row (Place next) none = refl
no_bad_row (BadRow place) none = absurd (none place refl)
