-- If the last rows of a table are deleted, the table holds the records before theirs.
use Rattle.urb_sqlite.proofs.Common.{All-permutation, AllByRecursion, Bool, Database, Entry, First}
use Rattle.urb_sqlite.proofs.Common.{HasBoth, Int, IsPermutation, Less, List, Ok, Option, Row}
use Rattle.urb_sqlite.proofs.Common.{Second, Some, StandsFor, [], all_weaker, ap}
use Rattle.urb_sqlite.proofs.Common.{append_assoc, arith}
use Rattle.urb_sqlite.proofs.Common.{by_pos, cases_Bool, column, cond, false, filter, inl, inr}
use Rattle.urb_sqlite.proofs.Common.{joined, journal_name, length, limit_of, map, option_map, pos}
use Rattle.urb_sqlite.proofs.Common.{read_from, record_at, refl, rowid, rows_in, second_name}
use Rattle.urb_sqlite.proofs.Common.{shown, sort_by, subst, suc, sym, table_of, table_rows, tree_of}
use Rattle.urb_sqlite.proofs.Common.{true, unwrap_or, ℕ, ℤ, ◌++◌, ◌+◌, ◌<◌, ◌||◌, ◌∙◌, ◌∷◌, ◌≡◌}
use Rattle.urb_sqlite.proofs.Common.{◌≤◌, ◌⊎◌}
use Rattle.std.specs.Prelude.{not}
use Rattle.std.specs.List.{list_any}
use Rattle.std.specs.Ordering.{int_cmp, is_eq, is_ge}
use Rattle.std.proofs.lemmas.Bool.{cases_lt, or_right}
use Rattle.std.proofs.lemmas.Int.{ints}
use Rattle.std.proofs.lemmas.List.{length-map}
use Rattle.std.proofs.lemmas.List.Sorted.{IsPermutation-sym}
use Rattle.std.proofs.lemmas.List.Sorted.{length_permutation, list_any-IsPermutation}
use Rattle.sqlite.specs.Edit.{id_in, without_all}
use Rattle.sqlite.specs.Schema.{Schema}
use Rattle.sqlite.specs.Table.{Table}
use Rattle.sqlite.specs.Tree.{Trees}
use Rattle.sqlite_trees.specs.Tree.{has_rowid}
use Rattle.sqlite_trees.proofs.ListLemmas.{IsPermutation-filter, all_from_map, all-permutation}
use Rattle.sqlite_trees.proofs.ListLemmas.{ascending-filter, filter-map}
use Rattle.sqlite_value.proofs.OrderLemmas.{value_cmp-Int}
use Rattle.sqlite_sql.specs.Ops.{binary}
use Rattle.urb_sqlite.proofs.DeleteStatement.{HasTaken, is_from}
use Rattle.urb_sqlite.proofs.SortOrder.{sort_is}
use Rattle.urb_sqlite.proofs.SpelledRows.{at_place, went_on}
use Rattle.urb_sqlite.proofs.StoredRows.{by_pos_total, first_read, placed, rows_there, second_read}
use Rattle.urb_sqlite.proofs.StoredRows.{stands_by}

-- ---- taking out rows by their rowids

-- whether the row has one of these rowids
abbrev has_any : List ℤ → Row → Bool
has_any ids r = list_any (λ id. has_rowid id r) ids

-- two filters, one after the other, are one
filter_both : (p q : Row → Bool) (rows : List Row)
    → filter (λ r. not (q r)) (filter (λ r. not (p r)) rows) ≡ filter (λ r. not (p r || q r)) rows
filter_both p q [] = refl
filter_both p q (x ∷ rows) =
    let rest = filter (λ r. not (p r)) rows in
    let left = filter (λ r. not (p r || q r)) rows in
    let same = filter_both p q rows in
    elim (p x) as (λ b. filter (λ r. not (q r)) (cond (not b) (x ∷ rest) rest)
    ≡ cond (not (b || q x)) (x ∷ left) left) [
      | true ↦ same
      | false ↦ elim (q x) as (λ c. cond (not c) (x ∷ filter (λ r. not (q r)) rest)
          (filter (λ r. not (q r)) rest) ≡ cond (not c) (x ∷ left) left) [
            | true ↦ same
            | false ↦ ap (λ l. x ∷ l) same
          ]
    ]

-- if nothing is taken out, all is left
filter_whole : (rows : List Row) → rows ≡ filter (λ r. true) rows
filter_whole [] = refl
filter_whole (x ∷ rows) = ap (λ l. x ∷ l) (filter_whole rows)

-- the rows without those that have one of the rowids
without_is : (ids : List ℤ) (rows : List Row)
    → without_all rows ids ≡ filter (λ r. not (has_any ids r)) rows
without_is [] rows = filter_whole rows
without_is (id ∷ ids) rows =
    without_is ids (filter (λ r. not (has_rowid id r)) rows)
    ∙ filter_both (has_rowid id) (has_any ids) rows

-- two tests that agree on each row leave the same rows
filter_same : (p q : Row → Bool) (rows : List Row) → AllByRecursion (λ r. p r ≡ q r) rows
    → filter (λ r. not (p r)) rows ≡ filter (λ r. not (q r)) rows
filter_same p q [] h = refl
filter_same p q (x ∷ rows) h =
    rw h.0 (ap (λ l. cond (not (q x)) (x ∷ l) l) (filter_same p q rows h.1))

-- ---- numbers as rowids

-- a number that isn't below another one compares so
at_least : (m n : ℕ) → n ≤ m → is_ge (int_cmp (pos m) (pos n)) ≡ true
at_least m n h = grind (arith, ints)

-- a number below another one compares so
at_most : (m n : ℕ) → m < n → is_ge (int_cmp (pos m) (pos n)) ≡ false
at_most m n h = grind (arith, ints)

-- a number equals itself
itself : (n : ℕ) → is_eq (int_cmp (pos n) (pos n)) ≡ true
itself n = grind (arith, ints)

-- a number differs from a greater one
other : (m n : ℕ) → m < n → is_eq (int_cmp (pos m) (pos n)) ≡ false
other m n h = grind (arith, ints)

-- the first column is a number
abbrev pub IsNumbered : Row → Type 0
IsNumbered r = (k : ℕ) × (column r 0 ≡ Int (pos k))

-- a row at the first position or after it is picked
from_yes : (first : ℕ) (r : Row) (k : ℕ) → column r 0 ≡ Int (pos k) → first ≤ k
    → is_from first r ≡ true
unfolding binary
from_yes first r k is h = rw (is, value_cmp-Int (pos k) (pos first), at_least k first h) refl

-- a row before the first position isn't picked
from_no : (first : ℕ) (r : Row) (k : ℕ) → column r 0 ≡ Int (pos k) → k < first
    → is_from first r ≡ false
unfolding binary
from_no first r k is h = rw (is, value_cmp-Int (pos k) (pos first), at_most k first h) refl

-- a row has its own rowid
own_rowid : (r : Row) → IsNumbered r → has_rowid (id_in (column r 0)) r ≡ true
own_rowid r (k, is) = rw (is, value_cmp-Int (pos k) (pos k)) (itself k)

-- a row doesn't have the rowid of a later row
low_rowid : (low high : Row) (m n : ℕ) → column low 0 ≡ Int (pos m) → column high 0 ≡ Int (pos n)
    → m < n → has_rowid (id_in (column high 0)) low ≡ false
low_rowid low high m n here there h = rw (here, there, value_cmp-Int (pos m) (pos n)) (other m n h)

-- ---- the rows that are taken out are those that were picked

-- a rowid as a number
abbrev id_of : Row → ℤ
id_of r = id_in (column r 0)

-- the rowids of the rows that are picked
abbrev ids_from : ℕ → List Row → List ℤ
ids_from first rows = map id_of (filter (is_from first) rows)

-- no row below the first position has a rowid of the picked rows
none_has : (first : ℕ) (r : Row) (k : ℕ) → column r 0 ≡ Int (pos k) → k < first → (rows : List Row)
    → AllByRecursion IsNumbered rows → has_any (ids_from first rows) r ≡ false
none_has first r k is below [] all = refl
none_has first r k is below (x ∷ rows) all =
    go (cases_Bool (is_from first x)) (none_has first r k is below rows all.1)
  where
    go : (is_from first x ≡ true) ⊎ (is_from first x ≡ false)
        → has_any (ids_from first rows) r ≡ false
        → has_any (ids_from first (x ∷ rows)) r ≡ false
    go (inr out) later = rw out later
    go (inl inside) later = elim (cases_lt all.0.0 first) [
      | inl low ↦ absurd (let e = sym inside ∙ from_no first x all.0.0 all.0.1 low in cc)
      | inr high ↦
          rw (inside, low_rowid r x k all.0.0 is all.0.1 (omega (arith, below, high))) later
    ]

-- each picked row has one of their rowids
all_have : (first : ℕ) (rows : List Row) → AllByRecursion IsNumbered rows
    → AllByRecursion (λ r. is_from first r ≡ true → has_any (ids_from first rows) r ≡ true) rows
all_have first [] all = tt
all_have first (x ∷ rows) all = (here, all_weaker _ _ later rows (all_have first rows all.1))
  where
    here : is_from first x ≡ true → has_any (ids_from first (x ∷ rows)) x ≡ true
    here inside = rw (inside, own_rowid x all.0) refl

    later : (r : Row) → (is_from first r ≡ true → has_any (ids_from first rows) r ≡ true)
        → is_from first r ≡ true → has_any (ids_from first (x ∷ rows)) r ≡ true
    later r h inside = go (is_from first x) (h inside)
      where
        go : (b : Bool) → has_any (ids_from first rows) r ≡ true
            → has_any (map id_of (cond b (x ∷ filter (is_from first) rows)
            (filter (is_from first) rows))) r ≡ true
        go true e = or_right (has_rowid (id_of x) r) (has_any (ids_from first rows) r) e
        go false e = e

-- A row has a rowid of the picked rows exactly if it's picked.
has_if_from : (first : ℕ) (ids : List ℤ) (rows : List Row) → AllByRecursion IsNumbered rows
    → IsPermutation (ids_from first rows) ids
    → AllByRecursion (λ r. has_any ids r ≡ is_from first r) rows
has_if_from first ids rows all same =
    over rows all (all_have first rows all)
  where
    one : (r : Row) → IsNumbered r
        → (is_from first r ≡ true → has_any (ids_from first rows) r ≡ true)
        → has_any ids r ≡ is_from first r
    one r (k, is) h =
        let moved =
        sym (list_any-IsPermutation (λ id. has_rowid id r) (ids_from first rows) ids same) in
        elim (cases_Bool (is_from first r)) [
          | inl inside ↦ moved ∙ h inside ∙ sym inside
          | inr out ↦ moved ∙ none_has first r k is (below k is out) rows all ∙ sym out
        ]
      where
        below : (k : ℕ) → column r 0 ≡ Int (pos k) → is_from first r ≡ false → k < first
        below k is out = elim (cases_lt k first) [
          | inl low ↦ low
          | inr high ↦ absurd (let e = sym out ∙ from_yes first r k is high in cc)
        ]

    over : (part : List Row) → AllByRecursion IsNumbered part
        → AllByRecursion (λ r. is_from first r ≡ true → has_any (ids_from first rows) r ≡ true) part
        → AllByRecursion (λ r. has_any ids r ≡ is_from first r) part
    over [] numbered have = tt
    over (r ∷ part) numbered have =
        (one r numbered.0 have.0, over part numbered.1 have.1)

-- the rows that are left are those before the first position
left_are : (first : ℕ) (ids : List ℤ) (rows : List Row) → AllByRecursion IsNumbered rows
    → IsPermutation (ids_from first rows) ids
    → without_all rows ids ≡ filter (λ r. not (is_from first r)) rows
left_are first ids rows all same =
    without_is ids rows ∙ filter_same (has_any ids) (is_from first) rows
    (has_if_from first ids rows all same)

-- ---- the records of the rows that are left

-- Rows that are read as records are cut at a position. Those before it are read as the first of the
-- records, and the others are as many as the other records.
pub record IsCut (limit start first : ℕ) (rows : List Row) (rs : List Entry) : Type 0 where
  pub kept : List Entry
  pub gone : List Entry
  pub whole : rs ≡ kept ++ gone
  pub read : read_from limit start (filter (λ r. not (is_from first r)) rows) ≡ Ok kept
  pub count : length (filter (is_from first) rows) ≡ length gone

-- if the first row isn't before the position, no row is
none_before : (limit start first : ℕ) (rows : List Row) (rs : List Entry)
    → read_from limit start rows ≡ Ok rs → first ≤ start
    → (filter (λ r. not (is_from first r)) rows ≡ []) × (length (filter (is_from first) rows)
    ≡ length rs)
unfolding read_from
none_before limit start first [] rs h high = let e : [] ≡ rs = cc in rw (← e) (refl, refl)
none_before limit start first (row ∷ rows) rs h high =
    let on = went_on start (record_at limit start row) (read_from limit (start + 1) rows) rs h in
    let inside = from_yes first row start (at_place limit start row on.0 on.1) high in
    let later = none_before limit (start + 1) first rows on.2 on.3 (omega (arith, high)) in
    rw (inside, on.4) (later.0, ap suc later.1)

-- one more row before the position
cut_more : (limit start first : ℕ) (row : Row) (rows : List Row) (rs : List Entry) (r : Entry)
    (more : List Entry) → record_at limit start row ≡ Some r → is_from first row ≡ false
    → rs ≡ r ∷ more → IsCut limit (start + 1) first rows more
    → IsCut limit start first (row ∷ rows) rs
unfolding read_from
cut_more limit start first row rows rs r more found out is later = record {
  kept = r ∷ later.kept;
  gone = later.gone;
  whole = is ∙ ap (λ l. r ∷ l) later.whole;
  read = rw (out, found, later.read) refl;
  count = rw out later.count;
}

-- rows that are read as records are cut at each position
pub cut : (limit start first : ℕ) (rows : List Row) (rs : List Entry)
    → read_from limit start rows ≡ Ok rs → IsCut limit start first rows rs
unfolding read_from
cut limit start first [] rs h =
    let e : [] ≡ rs = cc in
    record { kept = rs; gone = []; whole = rw (← e) refl; read = h; count = refl }
cut limit start first (row ∷ rows) rs h = elim (cases_lt start first) [
  | inl low ↦
      let on =
      went_on start (record_at limit start row) (read_from limit (start + 1) rows) rs h in
      let out = from_no first row start (at_place limit start row on.0 on.1) low in
      cut_more limit start first row rows rs on.0 on.2 on.1 out on.4
      (cut limit (start + 1) first rows on.2 on.3)
  | inr high ↦ let none = none_before limit start first (row ∷ rows) rs h high in
      record { kept = []; gone = rs; whole = refl; read = rw none.0 refl; count = none.1 }
]

-- the rows of a table after its last rows are deleted
rows_fewer : (limit tree start first : ℕ) (old new : Trees) (rs : List Entry) (ids : List ℤ)
    → read_from limit start (rows_in tree old) ≡ Ok rs
    → new tree ≡ without_all (old tree) ids → IsPermutation (ids_from first (old tree)) ids
    → (rows_in tree new ≡ filter (λ r. not (is_from first r)) (rows_in tree old))
    × (length (filter (is_from first) (old tree)) ≡ length (filter (is_from first)
    (rows_in tree old)))
rows_fewer limit tree start first old new rs ids read rows picked =
    let at = placed limit start (rows_in tree old) rs read in
    let before = λ (r : Row). not (is_from first r) in
    let back : IsPermutation (rows_in tree old) (map shown (old tree)) =
    Rattle.urb_sqlite.proofs.Common.IsPermutation-sort_by by_pos by_pos_total
    (map shown (old tree)) in
    let same = IsPermutation-sym _ _ back in
    let numbered =
    all_from_map IsNumbered shown (old tree) (all-permutation IsNumbered _ _ back
    (all_weaker _ IsNumbered (λ r b. (b.0, b.3)) _ at.between)) in
    let left : map shown (new tree) ≡ filter before (map shown (old tree)) =
    ap (map shown) (rows ∙ left_are first ids (old tree) numbered picked)
    ∙ sym (filter-map before shown (old tree)) in (
      ap (sort_by by_pos) left
          ∙ sort_is by_pos by_pos_total (filter before (map shown (old tree)))
          (filter before (rows_in tree old))
          (ascending-filter _ before (rows_in tree old) at.rising)
          (IsPermutation-filter before _ _ back),
      sym (length-map (filter (is_from first) (old tree)) shown)
          ∙ ap length (sym (filter-map (is_from first) shown (old tree)))
          ∙ sym (length_permutation _ _ (IsPermutation-filter (is_from first) _ _ same)),
    )

-- ---- both tables

-- The tables hold all of the records but the last `count`.
pub record StandsForFewer (new : Database) (rs : List Entry) (count : ℕ) : Type 0 where
  pub kept : List Entry
  pub gone : List Entry
  pub whole : rs ≡ kept ++ gone
  pub count_is : length gone ≡ count
  pub stands : StandsFor new kept

-- If the rows from a position on are deleted from the second table, the tables hold the records
-- before those rows.
pub stands_fewer : (old new : Database) (rs : List Entry) (first count : ℕ) → HasBoth old.schema
    → StandsFor old rs → HasTaken old new (tree_of old.schema second_name) first count
    → new.trees (tree_of old.schema journal_name) ≡ old.trees (tree_of old.schema journal_name)
    → StandsForFewer new rs count
stands_fewer old new rs first count has stands taken same_rows =
    let one = tree_of old.schema journal_name in
    let two = tree_of old.schema second_name in
    let start = 1 + length stands.first in
    let tables : (name : List ℕ) → table_of new.schema name ≡ table_of old.schema name =
    λ name. ap (λ (s : Schema). table_of s name) taken.schema in
    let first_rows : table_rows new journal_name ≡ table_rows old journal_name =
    ap (λ (o : Option Table). unwrap_or (option_map (λ t. rows_in t.tree new.trees) o) [])
    (tables journal_name ∙ has.first.there)
    ∙ ap (λ (kept : List Row). sort_by by_pos (map shown kept)) same_rows
    ∙ sym (rows_there old journal_name has.first) in
    let second_rows : table_rows new second_name ≡ rows_in two new.trees =
    ap (λ (o : Option Table). unwrap_or (option_map (λ t. rows_in t.tree new.trees) o) [])
    (tables second_name ∙ has.second.there) in
    let read : read_from (limit_of Second) start (rows_in two old.trees) ≡ Ok stands.second =
    ap (read_from (limit_of Second) start) (sym (rows_there old second_name has.second))
    ∙ second_read old rs stands in
    let fewer =
    rows_fewer (limit_of Second) two start first old.trees new.trees stands.second taken.ids read
    taken.rows taken.picked in
    let parts = cut (limit_of Second) start first (rows_in two old.trees) stands.second read in
    record {
      kept = stands.first ++ parts.kept;
      gone = parts.gone;
      whole =
          stands.whole ∙ ap (λ l. stands.first ++ l) parts.whole
          ∙ sym (append_assoc stands.first parts.kept parts.gone);
      count_is = sym parts.count ∙ sym fewer.1 ∙ sym taken.counted;
      stands =
          stands_by new stands.first parts.kept
          (ap (read_from (limit_of First) 1) first_rows ∙ first_read old rs stands)
          (ap (read_from (limit_of Second) start) (second_rows ∙ fewer.0) ∙ parts.read);
    }
