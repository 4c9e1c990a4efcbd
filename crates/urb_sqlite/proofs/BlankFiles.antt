-- If files are judged to hold no database, they hold none.
use Rattle.urb_sqlite.proofs.Common.{HoldsDatabase, Image, IsBlankFile, IsNothing, List, Option}
use Rattle.urb_sqlite.proofs.Common.{Some, [], ap, arith, codes, false, get_or-take, inl, inr}
use Rattle.urb_sqlite.proofs.Common.{length, length-take, slice_index, sym, take, true, unwrap_or}
use Rattle.urb_sqlite.proofs.Common.{ℕ, ◌++◌, ◌<◌, ◌∙◌, ◌∷◌, ◌≡◌, ◌≤◌}
use Rattle.sqlite_wal.specs.Recovery.{Pages}
use Rattle.sqlite_pool.specs.File.{IsSoundFile, header_in}
use Rattle.sqlite_pool.specs.Stored.{Adopts, reserved, sealed, stored_size, used_size}
use Rattle.sqlite_pool.specs.Header.{first_page}
use Rattle.sqlite_pool.specs.StoredLaws.{trimmed_some}
use Rattle.sqlite_wal.proofs.AppendLemmas.{some_value}
use Rattle.sqlite_pool.proofs.ProbeLemmas.{first_byte, not_blank}
use Rattle.sqlite_trees.specs.Tree.{Trees}
use Rattle.sqlite_wal.proofs.CreateLemmas.{begun_is_not_blank}

-- Files that are judged to be blank hold no database.
pub holds_none : (size : ℕ) (image : Image) (db : Trees) → 0 < size → IsBlankFile size image
    → ¬ HoldsDatabase image db
holds_none size image db some blank held =
    let large : 504 ≤ held.0 =
    (let few : reserved held.0 ≤ 8 = grind arith in omega (arith, held.1.0)) in
    not_blank held.0 image held.2.pages held.2.found large held.2.ours.file.sound size some blank

-- Files that recover to a sound file do hold a database.
pub holds_something : (size : ℕ) (image : Image) (pages : Pages) → Adopts size image pages
    → IsSoundFile size pages → ¬ IsNothing image
holds_something size image pages found sound nothing =
    let (page, is) = some_value (found.stored 1) found.whole.first in
    let used : pages 1 ≡ Some (take size page) =
    ap (λ (p : Pages). p 1) (sym found.shows) ∙ trimmed_some size _ 1 page is in
    let head : header_in pages ≡ take 100 (take size page) =
    ap (λ (o : Option (List ℕ)). take 100 (unwrap_or o [])) used in
    let magic : take 16 (take 100 (take size page)) ≡ codes "SQLite format 3" ++ 0 ∷ [] =
    ap (take 16) (sym head) ∙ sound.header.0.magic in
    let long : length (take 16 (take 100 (take size page))) ≡ 16 = ap length magic in
    let large : 16 ≤ size =
    omega (
      arith,
      long,
      length-take 16 (take 100 (take size page)),
      length-take 100 (take size page),
      length-take size page,
    ) in
    let first : slice_index page 0 ≡ 83 =
    sym (get_or-take size page 0 0 (omega (arith, large)))
    ∙ sym (get_or-take 100 (take size page) 0 0 (omega arith))
    ∙ sym (get_or-take 16 (take 100 (take size page)) 0 0 (omega arith))
    ∙ ap (λ (b : List ℕ). slice_index b 0) magic in
    let never = λ (other : ℕ) (some : 0 < other). let gate = first_byte other some in
    begun_is_not_blank (sealed (first_page other)) page
    (stored_size size) image found.stored found.found is (found.whole.sized 1 page is)
    (omega (arith, large)) (first ∙ sym gate)
    (λ none. let bad = sym gate ∙ none in omega arith) in
    elim nothing [
      | inl plain ↦ never (used_size 4096 false) (omega arith) plain
      | inr summed ↦ never
          (used_size 4096 true) (omega arith) summed
    ]
