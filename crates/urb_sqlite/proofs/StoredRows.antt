-- If a table stands for records and the row of the next record is added, it stands for these
-- records and that one.
use Rattle.urb_sqlite.proofs.Common.{All-from_recursion, All-permutation, AllByRecursion, Cert}
use Rattle.urb_sqlite.proofs.Common.{Database, Entry, First, HasBoth, HasTable, Int}
use Rattle.urb_sqlite.proofs.Common.{IsPermutation-sort_by, IsTotalOrder, IsWithin, Lacks, Less}
use Rattle.urb_sqlite.proofs.Common.{List, Ok, Option, Pend, PendCert, Row, Second, Some, Spells}
use Rattle.urb_sqlite.proofs.Common.{StandsFor, [], add-zero, all_weaker, ap, append_assoc, arith}
use Rattle.urb_sqlite.proofs.Common.{by_pos, column, extended, joined, journal_name, kept_of}
use Rattle.urb_sqlite.proofs.Common.{length, length-append, limit_of, map, option_map, pos, put_row}
use Rattle.urb_sqlite.proofs.Common.{read_from, record_at, records_of, recursion_from_All, refl}
use Rattle.urb_sqlite.proofs.Common.{row_of, rowid, rows_in, second_name, shown, sort_by, subst}
use Rattle.urb_sqlite.proofs.Common.{suc, sym, table_of, table_rows, tree_of, unwrap_or, ℕ, ◌++◌}
use Rattle.urb_sqlite.proofs.Common.{◌+◌, ◌<◌, ◌∙◌, ◌∷◌, ◌≡◌, ◌≤◌}
use Rattle.std.specs.Prelude.{⊤}
use Rattle.std.proofs.lemmas.Cmp.{on_total}
use Rattle.std.proofs.lemmas.Int.{ints}
use Rattle.std.proofs.lemmas.List.Sorted.{IsPermutation-append_left}
use Rattle.sqlite.specs.Order.{value_cmp}
use Rattle.sqlite.specs.Tree.{IsAscending, Trees}
use Rattle.sqlite.specs.Schema.{Schema}
use Rattle.sqlite_value.proofs.OrderLemmas.{value_cmp-Int, value_cmp_total}
use Rattle.sqlite_keyed.proofs.KeyedLemmas.{Less-from_lt}
use Rattle.sqlite_keyed.proofs.ListLemmas.{all_unmap, ascending-append}
use Rattle.sqlite.specs.Table.{Table}
use Rattle.urb_sqlite.specs.RowReadings.{followed, ok_or_none, read_both}
use Rattle.urb_sqlite.proofs.SortOrder.{sort_is}
use Rattle.urb_sqlite.proofs.SpelledRows.{at_place, is_read_as, read_if_spelled, spells_if_read}
use Rattle.urb_sqlite.proofs.SpelledRows.{went_on}
use Rattle.std.proofs.lemmas.List.{map_push}

-- the order of rows by their first column is total
pub by_pos_total : IsTotalOrder by_pos
by_pos_total = on_total (λ (r : Row). column r 0) value_cmp_total

-- ---- rows that are records are at their places

-- the first column is a number from low up to high
abbrev pub Between : ℕ → ℕ → Row → Type 0
Between low high r = (k : ℕ) × (low ≤ k) × (k < high) × (column r 0 ≡ Int (pos k))

less : (a b : Row) (m n : ℕ) → column a 0 ≡ Int (pos m) → column b 0 ≡ Int (pos n) → m < n
    → by_pos a b ≡ Less
less a b m n p q low =
    rw (p, q) (value_cmp-Int (pos m) (pos n) ∙ Less-from_lt (pos m) (pos n) (omega (arith, ints)))

-- the rows are at their places, rising from this one, and there are as many records as rows
pub record Placed (place : ℕ) (rows : List Row) (rs : List Entry) : Type 0 where
  pub between : AllByRecursion (Between place (place + length rows)) rows
  pub rising : IsAscending (λ a b. by_pos a b ≡ Less) rows
  pub count : length rs ≡ length rows

-- rows that are read as records rise in their first column, from the first place on
pub placed : (limit place : ℕ) (rows : List Row) (rs : List Entry)
    → read_from limit place rows ≡ Ok rs → Placed place rows rs
unfolding read_from
placed limit place [] rs h =
    let e : [] ≡ rs = cc in rw (← e) (record { between = tt; rising = tt; count = refl })
placed limit place (row ∷ rows) rs h =
    let on = went_on place (record_at limit place row) (read_from limit (place + 1) rows) rs h in
    let later = placed limit (place + 1) rows on.2 on.3 in
    let here = at_place limit place row on.0 on.1 in
    rw on.4 (record {
      between = (
        (place, omega arith, omega arith, here),
        all_weaker _ (Between place (place + suc (length rows)))
            (λ r b. (b.0, omega arith, omega arith, b.3)) rows later.between,
      );
      rising = (
        all_weaker _ (λ r. by_pos row r ≡ Less)
            (λ r b. less row r place b.0 here b.3 (omega arith)) rows later.between,
        later.rising,
      );
      count = ap suc later.count;
    })

-- ---- the next row goes to the end

put_end : (new : Row) (rows : List Row)
    → AllByRecursion (λ r. value_cmp (rowid r) (rowid new) ≡ Less) rows
    → put_row new rows ≡ rows ++ new ∷ []
put_end new [] below = refl
put_end new (r ∷ rows) below = rw below.0 (ap (λ rs. r ∷ rs) (put_end new rows below.1))

sort_push : (rows : List Row) (new : Row)
    → IsAscending (λ a b. by_pos a b ≡ Less) (sort_by by_pos rows)
    → AllByRecursion (λ r. by_pos r new ≡ Less) (sort_by by_pos rows)
    → sort_by by_pos (rows ++ new ∷ []) ≡ sort_by by_pos rows ++ new ∷ []
sort_push rows new rising below =
    sort_is by_pos by_pos_total (rows ++ new ∷ []) (sort_by by_pos rows ++ new ∷ [])
    (ascending-append _ (sort_by by_pos rows) (new ∷ []) rising (tt, tt)
    (all_weaker _ (λ r. (by_pos r new ≡ Less) × ⊤) (λ r h. (h, tt)) _ below))
    (IsPermutation-append_left (new ∷ []) _ _ (IsPermutation-sort_by by_pos by_pos_total rows))

shown_kept : (place : ℕ) (r : Entry) → shown (kept_of place r) ≡ row_of place r
shown_kept place (Pend name m) = refl
shown_kept place (PendCert name m) = refl
shown_kept place (Cert name) = refl

kept_place : (place : ℕ) (r : Entry) → column (kept_of place r) 0 ≡ Int (pos place)
kept_place place (Pend name m) = refl
kept_place place (PendCert name m) = refl
kept_place place (Cert name) = refl

module _ (limit tree : ℕ) where
  -- The table's rows after the row of the next place was put.
  rows_push : (old new : Trees) (rs : List Entry) (first place : ℕ) (row : Row)
      → read_from limit first (rows_in tree old) ≡ Ok rs → place ≡ first + length rs
      → column row 0 ≡ Int (pos place) → new tree ≡ put_row row (old tree)
      → rows_in tree new ≡ rows_in tree old ++ shown row ∷ []
  rows_push old new rs first place row read next here put =
      let at = placed limit first (rows_in tree old) rs read in
      let below : AllByRecursion (λ r. value_cmp (column r 0) (column row 0) ≡ Less)
      (rows_in tree old) =
      all_weaker _ (λ r. value_cmp (column r 0) (column row 0) ≡ Less)
      (λ r b. less r row b.0 place b.3 here (omega (arith, at.count, b.2))) _ at.between in
      let same = IsPermutation-sort_by by_pos by_pos_total (map shown (old tree)) in
      let all =
      recursion_from_All _ _ (All-permutation
      (λ r. value_cmp (column r 0) (column row 0) ≡ Less) _ _ same
      (All-from_recursion _ _ below)) in
      let ended : new tree ≡ old tree ++ row ∷ [] =
      put ∙ put_end row (old tree) (all_unmap
      (λ r. value_cmp (column r 0) (column row 0) ≡ Less) shown (old tree) all) in
      ap (λ rows. sort_by by_pos (map shown rows)) ended
      ∙ ap (sort_by by_pos) (map_push shown (old tree) row)
      ∙ sort_push (map shown (old tree)) (shown row) at.rising below

  -- a row that is read as a record, after rows that are, adds its record at the end
  pub read_end : (place : ℕ) (rows : List Row) (rs : List Entry) (row : Row) (r : Entry)
      → read_from limit place rows ≡ Ok rs → record_at limit (place + length rows) row ≡ Some r
      → read_from limit place (rows ++ row ∷ []) ≡ Ok (rs ++ r ∷ [])
  unfolding read_from
  read_end place [] rs row r h found =
      let e : [] ≡ rs = cc in rw (← e) (ap (λ o. joined place o (Ok [])) (rw add-zero at found))
  read_end place (x ∷ rows) rs row r h found =
      let on = went_on place (record_at limit place x) (read_from limit (place + 1) rows) rs h in
      let same : place + suc (length rows) ≡ place + 1 + length rows = omega arith in
      let more = read_end (place + 1) rows on.2 row r on.3 (rw same at found) in
      rw (on.1, more) (ap (λ (all : List Entry). Ok (all ++ r ∷ [])) (sym on.4))

  -- Putting the row of the next place adds its record.
  pub reads_more : (old new : Trees) (rs : List Entry) (first place : ℕ) (r : Entry)
      → read_from limit first (rows_in tree old) ≡ Ok rs → place ≡ first + length rs
      → place < 4294967295 → IsWithin limit r
      → new tree ≡ put_row (kept_of place r) (old tree)
      → read_from limit first (rows_in tree new) ≡ Ok (rs ++ r ∷ [])
  reads_more old new rs first place r read next low valid put =
      let all =
      rows_push old new rs first place (kept_of place r) read next (kept_place place r) put
      ∙ ap (λ row. rows_in tree old ++ row ∷ []) (shown_kept place r) in
      let count = (placed limit first (rows_in tree old) rs read).count in
      let last : first + length (rows_in tree old) ≡ place = omega arith in
      ap (read_from limit first) all
      ∙ read_end first (rows_in tree old) rs (row_of place r) r read
      (rw last (is_read_as limit place (row_of place r) r low valid (columns_same place r)))
    where
      columns_same : (place : ℕ) (r : Entry)
          → Rattle.urb_sqlite.specs.RecordRows.columns_in (row_of place r) ≡ row_of place r
      columns_same place (Pend name m) = refl
      columns_same place (PendCert name m) = refl
      columns_same place (Cert name) = refl

-- ---- both tables

-- the rows of a table that is there
pub rows_there : (d : Database) (name : List ℕ) → HasTable d.schema name
    → table_rows d name ≡ rows_in (tree_of d.schema name) d.trees
rows_there d name has =
    ap (λ (o : Option Table). unwrap_or (option_map (λ t. rows_in t.tree d.trees) o) []) has.there

-- a table that is absent has no rows
pub rows_absent : (d : Database) (name : List ℕ) → Lacks d.schema name → table_rows d name ≡ []
rows_absent d name none =
    ap (λ (o : Option Table). unwrap_or (option_map (λ t. rows_in t.tree d.trees) o) []) none

-- what two tables stand for, judged by reading their rows
pub stands_by : (d : Database) (first second : List Entry)
    → read_from (limit_of First) 1 (table_rows d journal_name) ≡ Ok first
    → read_from (limit_of Second) (1 + length first) (table_rows d second_name) ≡ Ok second
    → StandsFor d (first ++ second)
stands_by d first second read more =
    let before =
    spells_if_read (limit_of First) (omega arith) 1 (table_rows d journal_name) first
    (omega arith) read in
    record {
      first = first;
      second = second;
      whole = refl;
      in_first = before;
      in_second =
          spells_if_read (limit_of Second) (omega arith) (1 + length first)
          (table_rows d second_name) second before.places more;
    }

-- the rows of the first table are the first of the records that the tables stand for
pub first_read : (d : Database) (rs : List Entry) (h : StandsFor d rs)
    → read_from (limit_of First) 1 (table_rows d journal_name) ≡ Ok h.first
first_read d rs h =
    read_if_spelled (limit_of First) 1 (table_rows d journal_name) h.first h.in_first

-- the rows of the second table are the records after those of the first
pub second_read : (d : Database) (rs : List Entry) (h : StandsFor d rs)
    → read_from (limit_of Second) (1 + length h.first) (table_rows d second_name) ≡ Ok h.second
second_read d rs h =
    read_if_spelled (limit_of Second) (1 + length h.first)
    (table_rows d second_name) h.second h.in_second

-- if the tables stand for records, both tables are read as these records
pub reads_if_stands : (d : Database) (rs : List Entry) → StandsFor d rs
    → read_both (table_rows d journal_name) (table_rows d second_name) ≡ Ok rs
reads_if_stands d rs h =
    ap (λ r. followed r (λ done. read_from (limit_of Second) (1 + length done)
    (table_rows d second_name))) (first_read d rs h)
    ∙ ap (extended h.first) (second_read d rs h) ∙ ap Ok (sym h.whole)

-- the records of a database are those that its tables stand for
pub records_are : (d : Database) (rs : List Entry) → StandsFor d rs → records_of d ≡ rs
records_are d rs h = ap ok_or_none (reads_if_stands d rs h)

-- If the row of the next record is put into the second table, the tables stand for one more record.
pub stands_more : (old new : Database) (rs : List Entry) (place : ℕ) (r : Entry)
    → HasBoth old.schema → new.schema ≡ old.schema → StandsFor old rs → place ≡ length rs + 1
    → place < 4294967295 → IsWithin (limit_of Second) r
    → new.trees (tree_of old.schema second_name) ≡ put_row (kept_of place r)
    (old.trees (tree_of old.schema second_name))
    → new.trees (tree_of old.schema journal_name) ≡ old.trees (tree_of old.schema journal_name)
    → StandsFor new (rs ++ r ∷ [])
stands_more old new rs place r has same stands next low valid put kept =
    let one = tree_of old.schema journal_name in
    let two = tree_of old.schema second_name in
    let tables : (name : List ℕ) → table_of new.schema name ≡ table_of old.schema name =
    λ name. ap (λ (s : Schema). table_of s name) same in
    let first_rows : table_rows new journal_name ≡ table_rows old journal_name =
    ap (λ (o : Option Table). unwrap_or (option_map (λ t. rows_in t.tree new.trees) o) [])
    (tables journal_name ∙ has.first.there)
    ∙ ap (λ (kept : List Row). sort_by by_pos (map shown kept)) kept
    ∙ sym (rows_there old journal_name has.first) in
    let second_rows : table_rows new second_name ≡ rows_in two new.trees =
    ap (λ (o : Option Table). unwrap_or (option_map (λ t. rows_in t.tree new.trees) o) [])
    (tables second_name ∙ has.second.there) in
    let count : length rs ≡ length stands.first + length stands.second =
    ap length stands.whole ∙ length-append stands.first stands.second in
    let before : read_from (limit_of Second) (1 + length stands.first) (rows_in two old.trees)
    ≡ Ok stands.second =
    ap (read_from (limit_of Second) (1 + length stands.first))
    (sym (rows_there old second_name has.second)) ∙ second_read old rs stands in
    let more =
    reads_more (limit_of Second) two old.trees new.trees stands.second
    (1 + length stands.first) place r before (omega (arith, next, count)) low valid put in
    let whole : rs ++ r ∷ [] ≡ stands.first ++ (stands.second ++ r ∷ []) =
    ap (λ (xs : List Entry). xs ++ r ∷ []) stands.whole
    ∙ append_assoc stands.first stands.second (r ∷ []) in
    subst (StandsFor new) (sym whole)
    (stands_by new stands.first (stands.second ++ r ∷ [])
    (ap (read_from (limit_of First) 1) first_rows ∙ first_read old rs stands)
    (ap (read_from (limit_of Second) (1 + length stands.first)) second_rows ∙ more))

-- two databases whose tables have the same rows stand for the same records
pub stands_same : (a b : Database) (rs : List Entry)
    → table_rows b journal_name ≡ table_rows a journal_name
    → table_rows b second_name ≡ table_rows a second_name → StandsFor a rs → StandsFor b rs
stands_same a b rs first second h = record {
  first = h.first;
  second = h.second;
  whole = h.whole;
  in_first = subst (λ rows. Spells (limit_of First) 1 rows h.first) (sym first) h.in_first;
  in_second =
      subst (λ rows. Spells (limit_of Second) (1 + length h.first) rows h.second)
      (sym second) h.in_second;
}
