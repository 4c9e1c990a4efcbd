-- A schema to which a table was added after the others. Each old name finds what it found before,
-- and the new name finds the new table.
use Rattle.urb_sqlite.proofs.Common.{AllByRecursion, AllZip, Bool, HasTable, IsSound, IsTableRow}
use Rattle.urb_sqlite.proofs.Common.{Lacks, List, None, Option, Row, Some, [], ap, arith, cond}
use Rattle.urb_sqlite.proofs.Common.{eq-eqb, eqb-true, false, fold, get_stays, length, max, nat_le}
use Rattle.urb_sqlite.proofs.Common.{next_tree, option_and_then, option_map, record_table, refl}
use Rattle.urb_sqlite.proofs.Common.{same_name, slice_get, subst, suc, sym, table_named, table_of}
use Rattle.urb_sqlite.proofs.Common.{tree_of, true, zero, ℕ, ◌++◌, ◌+◌, ◌<◌, ◌==◌, ◌^◌, ◌∙◌, ◌∷◌}
use Rattle.urb_sqlite.proofs.Common.{◌≡◌, ◌≤◌}
use Rattle.std.proofs.Common.{find}
use Rattle.std.specs.List.{position_from}
use Rattle.sqlite.specs.Tree.{Trees}
use Rattle.sqlite.specs.Table.{Table}
use Rattle.sqlite.specs.Schema.{Schema}
use Rattle.sqlite.specs.Change.{past_views}
use Rattle.sqlite_catalog.specs.Change.{KeepsRows}
use Rattle.urb_sqlite.proofs.StatementTexts.{found_at}

-- ---- lists with one more

-- what holds of all elements of a list holds of the element at a place
pub all_at : {X : Type 0} (P : X → Type 0) (xs : List X) (i : ℕ) (x : X) → AllByRecursion P xs
    → slice_get xs i ≡ Some x → P x
all_at P [] i x all got = absurd (let e = got in cc)
all_at P (y ∷ xs) zero x all got = (let same : y ≡ x = cc in subst P same all.0)
all_at P (y ∷ xs) (suc i) x all got = all_at P xs i x all.1 got

-- the element that is added to a list is at the place that equals the list's length
pub slice_last : {X : Type 0} (xs : List X) (x : X) → slice_get (xs ++ x ∷ []) (length xs) ≡ Some x
slice_last [] x = refl
slice_last (y ∷ xs) x = slice_last xs x

position_front : {X : Type 0} (f : X → Bool) (k : ℕ) (xs ys : List X) (i : ℕ)
    → position_from f k xs ≡ Some i → position_from f k (xs ++ ys) ≡ Some i
position_front f k [] ys i found = absurd (let e = found in cc)
position_front f k (x ∷ xs) ys i found =
    (elim (f x) as (λ b. cond b (Some k) (position_from f (k + 1) xs) ≡ Some i
    → cond b (Some k) (position_from f (k + 1) (xs ++ ys)) ≡ Some i) [
      | true ↦ λ found. found
      | false ↦ λ found. position_front f (k + 1) xs ys i found
    ]) found

position_last : {X : Type 0} (f : X → Bool) (k : ℕ) (xs : List X) (x : X)
    → position_from f k xs ≡ None → f x ≡ true
    → position_from f k (xs ++ x ∷ []) ≡ Some (k + length xs)
position_last f k [] x none holds = rw holds (ap Some (omega arith))
position_last f k (y ∷ xs) x none holds =
    (elim (f y) as (λ b. cond b (Some k) (position_from f (k + 1) xs) ≡ None
    → cond b (Some k) (position_from f (k + 1) (xs ++ x ∷ [])) ≡ Some (k + suc (length xs))) [
      | true ↦ λ e. absurd (let n = e in cc)
      | false ↦ λ e. position_last f (k + 1) xs x e holds ∙ ap Some (omega arith)
    ]) none

position_none : {X : Type 0} (f : X → Bool) (k : ℕ) (xs : List X) (x : X)
    → position_from f k xs ≡ None → f x ≡ false → position_from f k (xs ++ x ∷ []) ≡ None
position_none f k [] x none other = rw other refl
position_none f k (y ∷ xs) x none other =
    (elim (f y) as (λ b. cond b (Some k) (position_from f (k + 1) xs) ≡ None
    → cond b (Some k) (position_from f (k + 1) (xs ++ x ∷ [])) ≡ None) [
      | true ↦ λ e. absurd (let n = e in cc)
      | false ↦ λ e. position_none f (k + 1) xs x e other
    ]) none

-- what is found is in the list
position_there : {X : Type 0} (f : X → Bool) (k : ℕ) (xs : List X) (i : ℕ)
    → position_from f k xs ≡ Some i → (d : ℕ) × (x : X) × (i ≡ k + d) × (slice_get xs d ≡ Some x)
position_there f k [] i found = absurd (let e = found in cc)
position_there {X} f k (y ∷ xs) i found =
    (elim (f y) as (λ b. cond b (Some k) (position_from f (k + 1) xs) ≡ Some i
    → (d : ℕ) × (x : X) × (i ≡ k + d) × (slice_get (y ∷ xs) d ≡ Some x)) [
      | true ↦ λ e. (0, y, (let same : k ≡ i = cc in omega (arith, same)), refl)
      | false ↦ λ e. let it = position_there f (k + 1) xs i e in
          (suc it.0, it.1, omega (arith, it.2), it.3)
    ]) found

find_front : {X : Type 0} (f : X → Bool) (xs ys : List X) (x : X) → find f xs ≡ Some x
    → find f (xs ++ ys) ≡ Some x
find_front f [] ys x found = absurd (let e = found in cc)
find_front f (y ∷ xs) ys x found =
    (elim (f y) as (λ b. cond b (Some y) (find f xs) ≡ Some x
    → cond b (Some y) (find f (xs ++ ys)) ≡ Some x) [
      | true ↦ λ found. found
      | false ↦ λ found. find_front f xs ys x found
    ]) found

find_last : (n : ℕ) (xs : List Table) (x : Table) → AllByRecursion (λ t. t.tree < n) xs → x.tree ≡ n
    → find (λ (t : Table). t.tree == n) (xs ++ x ∷ []) ≡ Some x
find_last n [] x below is = rw (eq-eqb x.tree n is) refl
find_last n (y ∷ xs) x below is =
    last n y x xs (y.tree == n) refl below.0 (find_last n xs x below.1 is)
  where
    last : (n : ℕ) (y x : Table) (xs : List Table) (b : Bool) → (y.tree == n) ≡ b → y.tree < n
        → find (λ (t : Table). t.tree == n) (xs ++ x ∷ []) ≡ Some x
        → cond b (Some y) (find (λ (t : Table). t.tree == n) (xs ++ x ∷ [])) ≡ Some x
    last n y x xs true e low more =
        absurd (let same = eqb-true y.tree n e in omega (arith, same, low))
    last n y x xs false e low more = more

-- ---- the next tree is above the others

fold_above : {X : Type 0} (m : X → ℕ) (n : ℕ) (xs : List X) → n ≤ fold (λ k x. max k (m x + 1)) n xs
fold_above m n [] = omega arith
fold_above m n (x ∷ xs) = let more = fold_above m (max n (m x + 1)) xs in omega (arith, more)

fold_all : {X : Type 0} (m : X → ℕ) (n : ℕ) (xs : List X) (most : ℕ)
    → fold (λ k x. max k (m x + 1)) n xs ≤ most → AllByRecursion (λ x. m x < most) xs
fold_all m n [] most low = tt
fold_all m n (x ∷ xs) most low = (
  let more = fold_above m (max n (m x + 1)) xs in
      omega (arith, more, low),
  fold_all m (max n (m x + 1)) xs most low,
)

trees_below : (s : Schema) → AllByRecursion (λ (t : Table). t.tree < next_tree s) s.tables
trees_below s =
    fold_all (λ (t : Table). t.tree) (past_views s) s.tables (next_tree s)
    (fold_above (λ i. i.tree) _ s.indexes)

-- ---- names in a schema with one more table

all_low : (rows : List Row) (tables : List Table) → AllZip IsTableRow rows tables
    → AllByRecursion (λ (t : Table). t.tree < 65536) tables
all_low [] [] all = tt
all_low [] (t ∷ tables) all = absurd all
all_low (r ∷ rows) [] all = absurd all
all_low (r ∷ rows) (t ∷ tables) all = (all.0.described.low, all_low rows tables all.1)

-- each table of a sound database has a low tree
pub low_trees : (s : Schema) (db : Trees) → IsSound s db
    → AllByRecursion (λ (t : Table). t.tree < 65536) s.tables
low_trees s db sound = all_low _ s.tables sound.lists.listed.tables

stored_if_low : (n : ℕ) → n < 65536 → nat_le (2 ^ 31) n ≡ false
stored_if_low n low = search (arith, Rattle.std.proofs.lemmas.Bool.leb-false)

-- what the tree of a name's table says about the schema
with_tree : (s : Schema) (name : List ℕ) (tree : ℕ)
    → table_of s name ≡ Some (record_table name tree)
    → find (λ (t : Table). t.tree == tree) s.tables ≡ Some (record_table name tree)
    → nat_le (2 ^ 31) tree ≡ false
    → HasTable s name × (tree_of s name ≡ tree)
with_tree s name tree there alone stored =
    let is : tree_of s name ≡ tree =
    ap (λ (o : Option Table). Rattle.std.specs.Prelude.unwrap_or (option_map (λ t. t.tree) o) 0)
    there in (
      record {
        there = there ∙ ap (λ n. Some (record_table name n)) (sym is);
        alone =
            subst (λ n. find (λ (t : Table). t.tree == n) s.tables ≡ Some (record_table name n))
            (sym is) alone;
        stored = ap (nat_le (2 ^ 31)) is ∙ stored;
      },
      is,
    )

-- an absent table has no place
lacks_named : (s : Schema) (name : List ℕ) → Lacks s name → table_named s name ≡ None
lacks_named s name lacks = go (table_named s name) refl lacks
  where
    go : (o : Option ℕ) → table_named s name ≡ o → option_and_then (slice_get s.tables) o ≡ None
        → o ≡ None
    go None is none = refl
    go (Some at) is none =
        let it = position_there (λ (t : Table). same_name t.name name) 0 s.tables at is in
        let here : at ≡ it.0 = omega (arith, it.2) in
        absurd (let e : None ≡ Some it.1 = sym none ∙ ap (slice_get s.tables) here ∙ it.3 in cc)

module _ (s k : Schema) (t : Table) (behind : k.tables ≡ s.tables ++ t ∷ []) where
  -- an absent table is still absent after one of another name is added
  pub lacks_behind : (name : List ℕ) → same_name t.name name ≡ false → Lacks s name → Lacks k name
  lacks_behind name other lacks =
      let none : table_named k name ≡ None =
      ap (position_from (λ x. same_name x.name name) 0) behind
      ∙ position_none (λ (x : Table). same_name x.name name) 0 s.tables t
      (lacks_named s name lacks) other in
      ap (option_and_then (slice_get k.tables)) none

  -- a table of records is still there, in the same tree, after another table was added
  pub has_behind : (name : List ℕ) → HasTable s name
      → HasTable k name × (tree_of k name ≡ tree_of s name)
  has_behind name has =
      let it = found_at s name has in
      let tree = tree_of s name in
      let named : table_named k name ≡ Some it.at =
      ap (position_from (λ x. same_name x.name name) 0) behind
      ∙ position_front (λ x. same_name x.name name) 0 s.tables (t ∷ []) it.at it.named in
      let there : slice_get k.tables it.at ≡ Some (record_table name tree) =
      ap (λ ts. slice_get ts it.at) behind ∙ get_stays s.tables (t ∷ []) it.at _ it.there in
      with_tree k name tree (ap (option_and_then (slice_get k.tables)) named ∙ there)
      (ap (find (λ x. x.tree == tree)) behind
      ∙ find_front (λ x. x.tree == tree) s.tables (t ∷ []) _ has.alone) has.stored

  -- a table of records with a new name is there, in the next free tree, once it was added
  pub has_new : (name : List ℕ) → t ≡ record_table name (next_tree s) → table_named s name ≡ None
      → same_name name name ≡ true → next_tree s < 65536
      → HasTable k name × (tree_of k name ≡ next_tree s)
  has_new name is none same low =
      let n = next_tree s in
      let mine : same_name t.name name ≡ true =
      ap (λ (x : Table). same_name x.name name) is ∙ same in
      let named : table_named k name ≡ Some (length s.tables) =
      ap (position_from (λ x. same_name x.name name) 0) behind
      ∙ position_last (λ (x : Table). same_name x.name name) 0 s.tables t none mine
      ∙ ap Some (omega arith) in
      let there : slice_get k.tables (length s.tables) ≡ Some (record_table name n) =
      ap (λ ts. slice_get ts (length s.tables)) behind ∙ slice_last s.tables t ∙ ap Some is in
      with_tree k name n (ap (option_and_then (slice_get k.tables)) named ∙ there)
      (ap (find (λ x. x.tree == n)) behind
      ∙ find_last n s.tables t (trees_below s) (ap (λ (x : Table). x.tree) is) ∙ ap Some is)
      (stored_if_low n low)

-- if one of the first has it, those after them add nothing
find_here : {X : Type 0} (f : X → Bool) (xs ys : List X) (i : ℕ) (x : X) → slice_get xs i ≡ Some x
    → f x ≡ true → find f (xs ++ ys) ≡ find f xs
find_here f [] ys i x got holds = absurd (let e = got in cc)
find_here f (y ∷ xs) ys zero x got holds =
    (let same : y ≡ x = cc in let there : f y ≡ true = ap f same ∙ holds in rw there refl)
find_here f (y ∷ xs) ys (suc i) x got holds =
    (elim (f y) as (λ b. cond b (Some y) (find f (xs ++ ys)) ≡ cond b (Some y) (find f xs)) [
      | true ↦ refl
      | false ↦ find_here f xs ys i x got holds
    ])

module _ (s k : Schema) (more : List Table) (behind : k.tables ≡ s.tables ++ more) where
  -- the place of a name among the tables, and the table there
  record Stands (name : List ℕ) (t : Table) : Type 0 where
    at : ℕ
    named : table_named s name ≡ Some at
    there : slice_get s.tables at ≡ Some t

  stands_at : (name : List ℕ) (t : Table) → table_of s name ≡ Some t → Stands name t
  stands_at name t is = go (table_named s name) refl is
    where
      go : (o : Option ℕ) → table_named s name ≡ o → option_and_then (slice_get s.tables) o ≡ Some t
          → Stands name t
      go None named none = absurd (let e = none in cc)
      go (Some at) named there = record { at = at; named = named; there = there }

  named_front : (name : List ℕ) (at : ℕ) → table_named s name ≡ Some at
      → table_named k name ≡ Some at
  named_front name at named =
      ap (position_from (λ (x : Table). same_name x.name name) 0) behind
      ∙ position_front (λ (x : Table). same_name x.name name) 0 s.tables more at named

  -- the table of a name stays the table of that name
  pub table_stays : (name : List ℕ) (t : Table) → table_of s name ≡ Some t
      → table_of k name ≡ Some t
  table_stays name t is =
      let it = stands_at name t is in
      ap (option_and_then (slice_get k.tables)) (named_front name it.at it.named)
      ∙ ap (λ ts. slice_get ts it.at) behind ∙ get_stays s.tables more it.at t it.there

  -- a table of records that is there afterwards, and whose name existed before, was there before
  pub has_before : (name : List ℕ) (t : Table) → table_of s name ≡ Some t → HasTable k name
      → HasTable s name
  has_before name t is has =
      let tree = tree_of k name in
      let both : Some t ≡ Some (record_table name tree) = sym (table_stays name t is) ∙ has.there in
      let same : t ≡ record_table name tree = cc in
      let it = stands_at name t is in
      let mine : (t.tree == tree) ≡ true =
      ap (λ (x : Table). x.tree == tree) same ∙ eq-eqb tree tree refl in
      let alone : find (λ (x : Table). x.tree == tree) s.tables ≡ Some (record_table name tree) =
      sym (find_here (λ (x : Table). x.tree == tree) s.tables more it.at t it.there mine)
      ∙ sym (ap (find (λ (x : Table). x.tree == tree)) behind) ∙ has.alone in
      (with_tree s name tree (is ∙ ap Some same) alone has.stored).0

-- the rows of a table that is there are kept
pub kept_rows : (s : Schema) (old new : Trees) (name : List ℕ) → HasTable s name
    → KeepsRows s.tables old new → new (tree_of s name) ≡ old (tree_of s name)
kept_rows s old new name has keeps =
    let it = found_at s name has in
    all_at (λ (t : Table). new t.tree ≡ old t.tree) s.tables it.at
    (record_table name (tree_of s name)) keeps it.there

-- two different names find tables in different trees
pub trees_differ : (s : Schema) (a b : List ℕ) → HasTable s a → HasTable s b → (a ≡ b → ⊥)
    → tree_of s a ≡ tree_of s b → ⊥
trees_differ s a b has also differ same =
    let both : Some (record_table a (tree_of s a)) ≡ Some (record_table b (tree_of s b)) =
    sym has.alone ∙ ap (λ n. find (λ (t : Table). t.tree == n) s.tables) same ∙ also.alone in
    let name : a ≡ b =
    ap (λ (o : Option Table). Rattle.std.specs.Prelude.unwrap_or (option_map (λ t. t.name) o)
    []) both in
    differ name
