-- What a SELECT shows of its table.
use Rattle.urb_sqlite.proofs.Common.{All, All-from_recursion, All-permutation, AllByRecursion}
use Rattle.urb_sqlite.proofs.Common.{HasTable, IsPermutation, IsSorted, List, Null, Row, [], ap}
use Rattle.urb_sqlite.proofs.Common.{arith, by_pos, column, false, flat_map, is_lt, length, map}
use Rattle.urb_sqlite.proofs.Common.{nat_le, refl, shown, subst, sym, tree_of, ℕ, ◌+◌, ◌<◌, ◌^◌}
use Rattle.urb_sqlite.proofs.Common.{◌∙◌, ◌∷◌, ◌≡◌}
use Rattle.std.proofs.lemmas.List.{get_or-map, length-map}
use Rattle.std.proofs.lemmas.List.Sorted.{IsPermutation-map}
use Rattle.sqlite_keyed.proofs.ListLemmas.{map-map}
use Rattle.sqlite.specs.Tree.{Trees}
use Rattle.sqlite_value.proofs.OrderLemmas.{then-Equal}
use Rattle.sqlite.specs.Query.{IsAnswer, Output, output, output_cmp}
use Rattle.sqlite.specs.Program.{overlay}
use Rattle.sqlite.specs.State.{Shown, State}
use Rattle.sqlite.proofs.Callers.{reads_as}
use Rattle.urb_sqlite.proofs.StatementTexts.{Selects, query, select_is}

-- what a row is sorted by, and what it shows
abbrev out : Row → Output
out row = (column row 0 ∷ [], shown row)

flat_map_single : {X Y : Type 0} (f : X → Y) (xs : List X) → flat_map (λ x. f x ∷ []) xs ≡ map f xs
flat_map_single f [] = refl
flat_map_single f (x ∷ xs) = ap (λ ys. f x ∷ ys) (flat_map_single f xs)

-- the key that a row is sorted by is its first column
abbrev IsKeyed : Output → Type 0
IsKeyed o = column o.0 0 ≡ column o.1 0

keyed_rows : (rows : List Row) → AllByRecursion IsKeyed (map out rows)
keyed_rows [] = tt
keyed_rows (r ∷ rows) = (refl, keyed_rows rows)

-- rows that are sorted by their keys are sorted by their first column
sorted_rows : (tree : ℕ) (os : List Output) → All IsKeyed os → IsSorted (output_cmp (query tree)) os
    → IsSorted by_pos (map (λ (o : Output). o.1) os)
sorted_rows tree os keyed sorted k d low high =
    let len = length-map os (λ (o : Output). o.1) in
    let inside : k + 1 < length os = omega (arith, len) in
    let e : Output = ([], d) in
    let now = get_or-map (λ (o : Output). o.1) os k e d (omega arith) in
    let next = get_or-map (λ (o : Output). o.1) os (k + 1) e d inside in
    let here = keyed k e (omega arith) in
    let there = keyed (k + 1) e inside in
    rw (now, next, ← here, ← there) (ap is_lt (sym (then-Equal _)) ∙ sorted k e low inside)

-- a stored tree isn't one that the statement computes
pub overlaid : (db : Trees) (tree : ℕ) → nat_le (2 ^ 31) tree ≡ false → overlay db [] tree ≡ db tree
overlaid db tree stored = rw stored refl

-- The SELECT shows the rows of its table, in order of pos.
pub selects : (text name : List ℕ) → Selects text name → (old new : State) (rows : List Row)
    → HasTable old.now.schema name → Shown text [] old new rows
    → IsPermutation (map shown (old.now.trees (tree_of old.now.schema name))) rows
    × IsSorted by_pos rows
selects text name parsed old new rows has h =
    let tree = tree_of old.now.schema name in
    let it = select_is old.now.schema text name has parsed in
    let got =
    reads_as text [] old new old.now.schema refl _ it.command_is it.plain it.unlisted rows h in
    let a : IsAnswer (query tree) (overlay old.now.trees []) [] rows = got.answer Null in
    let table = old.now.trees tree in
    let over : a.staged ≡ flat_map (λ r. ([] ∷ r ∷ []) ∷ []) table =
    subst (λ (rs : List Row). a.staged ≡ flat_map (λ r. ([] ∷ r ∷ []) ∷ []) rs)
    (overlaid old.now.trees tree has.stored) a.grouped in
    let staged : a.staged ≡ map (λ r. [] ∷ r ∷ []) table =
    over ∙ flat_map_single (λ r. [] ∷ r ∷ []) table in
    let kept : a.kept ≡ map out table =
    a.distinct ∙ ap (map (output (query tree))) staged
    ∙ map-map (output (query tree)) (λ r. [] ∷ r ∷ []) table in
    let same : IsPermutation (map out table) a.ordered =
    subst (λ k. IsPermutation k a.ordered) kept a.same in
    let keyed =
    All-permutation IsKeyed _ _ same (All-from_recursion IsKeyed _ (keyed_rows table)) in
    let all : rows ≡ map (λ (o : Output). o.1) a.ordered = a.shown in
    let moved =
    subst (λ k. IsPermutation k (map (λ (o : Output). o.1) a.ordered))
    (map-map (λ (o : Output). o.1) out table)
    (IsPermutation-map (λ (o : Output). o.1) _ _ same) in
    rw all (moved, sorted_rows tree a.ordered keyed a.sorted)
