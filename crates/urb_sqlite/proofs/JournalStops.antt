-- What the next opening finds, depending on what a stop leaves.
use Rattle.urb_sqlite.proofs.Common.{Bool, Cert, Content, Entry, Err, HasCleanDisk, Held}
use Rattle.urb_sqlite.proofs.Common.{HoldsDatabase, IfOk, Image, IsHonestJournal, IsJournal}
use Rattle.urb_sqlite.proofs.Common.{IsSafeAtRest, IsTrue, Label, LeavesOnly, List, None, Ok, OnOk}
use Rattle.urb_sqlite.proofs.Common.{Option, Pend, PendCert, Result, Some, StandsFor, [], ap, arith}
use Rattle.urb_sqlite.proofs.Common.{database_of, eq-eqb, eqb-true, false, file_state, inl, inr}
use Rattle.urb_sqlite.proofs.Common.{length, length-append, no_doubt, records_of, refl, subst, suc}
use Rattle.urb_sqlite.proofs.Common.{sym, true, view, zero, ℕ, ∥∥₁_map, ◌++◌, ◌+◌, ◌==◌, ◌∙◌, ◌∷◌}
use Rattle.urb_sqlite.proofs.Common.{◌≡◌, ◌≤◌, ◌⊎◌}
use Rattle.std.proofs.Math.Logic.{∥∥₁_elim}
use Rattle.std.specs.Coded.{Coded, Coded-set, code_by, coded_bool, coded_list, coded_option}
use Rattle.std.specs.Coded.{coded_ℕ, coded×}
use Rattle.std.proofs.lemmas.Bool.{and_from, and_parts, true≢false}
use Rattle.sqlite_disk.specs.declared.Disk.{Ghosts}
use Rattle.sqlite_wal.specs.Files.{outcomes, seen_image}
use Rattle.sqlite_wal.specs.Reads.{AreClean}
use Rattle.sqlite_pool.specs.declared.pool.Pool.{Pool}
use Rattle.sqlite_pool.proofs.StateLemmas.{may_leave_is}
use Rattle.sqlite_store.specs.declared.store.FileStore.{FileStore}
use Rattle.sqlite_store.specs.FileStore.{files, recovers}
use Rattle.sqlite_trees.specs.View.{IsClean, doubt}
use Rattle.sqlite_trees.specs.Tree.{Trees}
use Rattle.sqlite.specs.State.{State}
use Rattle.sqlite.specs.Held.{AreDatabases}
use Rattle.sqlite.proofs.Theorems.{opens_again}
use Rattle.urb_stable.specs.StableStorage.{IsContents}
use Rattle.urb_sqlite.specs.ReopenedJournals.{IsFoundAfter}
use Rattle.urb_sqlite.proofs.StoredRows.{records_are}
use Rattle.sqlite_pool.specs.Pool as pool
use Rattle.sqlite_schema.specs.contracts.schema.Table as table

-- a store is clean if both of its files are clean
pub store_clean : {D : Type 0} {g : Ghosts D} (it : Pool D g)
    → AreClean g (pool.files it).0 (pool.files it).1 → IsTrue (pool.state it).is_clean
unfolding pool.state pool.files
store_clean it clean = clean

-- a store over clean files was made by a clean connection
pub store_was_clean : {D : Type 0} {g : Ghosts D} (conn : Held (FileStore D g))
    (store : FileStore D g) → AreClean g (files store).0 (files store).1
    → doubt (view conn.store).is_clean ≤ doubt (view store).is_clean
    → HasCleanDisk (file_state conn)
store_was_clean conn store clean falls =
    let none : IsClean (view store) = no_doubt _ (store_clean store.pool clean) in
    omega (arith, none, falls)

-- ---- records are equal in one way alone

abbrev Parts : Type 0
Parts = ℕ × ((ℕ × ℕ) × (ℕ × (ℕ × List ℕ)))

parts : Entry → Parts
parts (Pend x m) = (0, ((x.sender, x.seq), (m.client, (m.number, m.payload))))
parts (PendCert x m) = (1, ((x.sender, x.seq), (m.client, (m.number, m.payload))))
parts (Cert x) = (2, ((x.sender, x.seq), (0, (0, []))))

whole : Parts → Entry
whole p = made p.0
  where
    name : Label
    name = record { sender = p.1.0.0; seq = p.1.0.1 }

    message : Content
    message = record { client = p.1.1.0; number = p.1.1.1.0; payload = p.1.1.1.1 }

    made : ℕ → Entry
    made zero = Pend name message
    made (suc zero) = PendCert name message
    made (suc (suc more)) = Cert name

whole_is : (r : Entry) → whole (parts r) ≡ r
unfolding whole parts
whole_is (Pend x m) = refl
whole_is (PendCert x m) = refl
whole_is (Cert x) = refl

entry_code : Coded Entry
entry_code =
    code_by Parts (coded× coded_ℕ
    (coded× (coded× coded_ℕ coded_ℕ) (coded× coded_ℕ (coded× coded_ℕ (coded_list coded_ℕ)))))
    parts whole whole_is

same_once : (xs ys : List Entry) (p q : xs ≡ ys) → p ≡ q
same_once xs ys p q = Coded-set (coded_list entry_code) xs ys p q

-- ---- what an opening finds

-- The opened journal holds what the stop left.
pub found_again : {D : Type 0} {g : Ghosts D} (conn : Held (FileStore D g)) (store : FileStore D g)
    (left : Image) (again : State)
    → AreClean g (files store).0 (files store).1 → outcomes g (files store).0 (files store).1 left
    → (IsClean (view store) → IsTrue (view store).is_numbered)
    → (IsClean (view store) → AreDatabases (recovers store))
    → ((db : Trees) → recovers store db → recovers conn.store db)
    → ((db : Trees) → HoldsDatabase left db → (journal : IsJournal db)
    → IsHonestJournal again × StandsFor (database_of journal) (records_of again.now))
    → (P : List Entry → Type 0) → LeavesOnly (file_state conn) P
    → ∥ IsHonestJournal again × P (records_of again.now) ∥₁
found_again conn store left again clean may numbered sound fewer opened P leaves =
    let is_clean : IsClean (view store) = no_doubt _ (store_clean store.pool clean) in
    ∥∥₁_map (opens_again store (numbered is_clean) (sound is_clean) left
    (may_leave_is store.pool left clean may)) (λ db.
    let rest = leaves db.0 (fewer db.0 db.1) in
    let got = opened db.0 db.2 rest.0 in
    let same : rest.1 ≡ records_of again.now =
    sym (records_are (database_of rest.0) rest.1 rest.2)
    ∙ records_are (database_of rest.0) (records_of again.now) got.1 in
    (got.0, subst P same rest.3))

-- A journal with a clean disk is honest if it is merely known to be honest.
pub honest_again : (s : State) → HasCleanDisk s → ∥ IsHonestJournal s ∥₁ → IsHonestJournal s
honest_again s clean h = record {
  clean = clean;
  is_open = ∥∥₁_elim h (Coded-set coded_bool _ _) (λ x. x.is_open);
  schema = record {
    first = record {
      there =
          ∥∥₁_elim h (Coded-set (coded_option table.the_row.coded) _ _) (λ x. x.schema.first.there);
      alone =
          ∥∥₁_elim h (Coded-set (coded_option table.the_row.coded) _ _) (λ x. x.schema.first.alone);
      stored = ∥∥₁_elim h (Coded-set coded_bool _ _) (λ x. x.schema.first.stored);
    };
    second = record {
      there =
          ∥∥₁_elim h (Coded-set (coded_option table.the_row.coded) _ _)
          (λ x. x.schema.second.there);
      alone =
          ∥∥₁_elim h (Coded-set (coded_option table.the_row.coded) _ _)
          (λ x. x.schema.second.alone);
      stored = ∥∥₁_elim h (Coded-set coded_bool _ _) (λ x. x.schema.second.stored);
    };
  };
}

-- two lists of records are equal if they are merely known to be equal
pub same_again : (found before : List Entry) → ∥ found ≡ before ∥₁ → found ≡ before
same_again found before h = ∥∥₁_elim h (same_once found before) (λ x. x)

-- which of the two lists was found
pub one_again : (found before : List Entry) (r : Entry)
    → ∥ (found ≡ before) ⊎ (found ≡ before ++ r ∷ []) ∥₁
    → (found ≡ before) ⊎ (found ≡ before ++ r ∷ [])
one_again found before r h = go (length found == length before) refl
  where
    more : length (before ++ r ∷ []) ≡ length before + 1
    more = length-append before (r ∷ [])

    go : (b : Bool) → (length found == length before) ≡ b
        → (found ≡ before) ⊎ (found ≡ before ++ r ∷ [])
    go true e = inl (∥∥₁_elim h (same_once found before) (λ x. elim x [
      | inl same ↦ same
      | inr longer ↦ absurd (omega (arith, eqb-true _ _ e, ap length longer, more))
    ]))
    go false e = inr (∥∥₁_elim h (same_once found (before ++ r ∷ [])) (λ x. elim x [
      | inl same ↦ absurd (true≢false (sym (eq-eqb _ _ (ap length same)) ∙ e))
      | inr longer ↦ longer
    ]))

-- two facts of an `Ok` answer hold together
pub both_ok : {A E : Type 0} (r : Result A E) (P Q : A → Type 0) → IfOk r P → IfOk r Q
    → IfOk r (λ x. P x × Q x)
both_ok (Ok x) P Q p q = (p, q)
both_ok (Err e) P Q p q = tt

-- What a crash of both files leaves is an outcome of the store, and the store was clean.
pub crashed : {D : Type 0} (g : Ghosts D) (store : FileStore D g) (log db log' db' : D)
    → (log, db) ≡ files store
    → (IsTrue (g.is_clean log') → IsTrue (g.is_clean log))
    → (IsTrue (g.is_clean db') → IsTrue (g.is_clean db)) → g.may_leave log (g.seen log')
    → g.may_leave db (g.seen db')
    → AreClean g log' db' → AreClean g (files store).0 (files store).1
    × outcomes g (files store).0 (files store).1 (seen_image g log' db')
crashed {D} g store log db log' db' is log_clean db_clean log_left db_left clean =
    let parts = and_parts _ _ clean in
    subst (λ (x : D × D). AreClean g x.0 x.1 × outcomes g x.0 x.1 (seen_image g log' db')) is
    (and_from _ _ (log_clean parts.0) (db_clean parts.1), (log_left, db_left))

-- A store, and a stop after it.
pub found_after : {A E : Type 0} (r : Result A E) (old new again : State) (entry : Entry)
    → OnOk r (IsHonestJournal old → HasCleanDisk new → IsHonestJournal new)
    → (IsHonestJournal new → OnOk r (records_of new.now ≡ records_of old.now ++ entry ∷ []))
    → IsSafeAtRest new
    → (IsHonestJournal old → HasCleanDisk new
    → LeavesOnly new (λ left. (left ≡ records_of old.now)
    ⊎ (left ≡ records_of old.now ++ entry ∷ [])))
    → ((records : List Entry) → LeavesOnly new (λ left. left ≡ records)
    → IsHonestJournal again × (records_of again.now ≡ records))
    → ((records : List Entry) (r : Entry)
    → LeavesOnly new (λ left. (left ≡ records) ⊎ (left ≡ records ++ r ∷ []))
    → IsHonestJournal again × ((records_of again.now ≡ records)
    ⊎ (records_of again.now ≡ records ++ r ∷ [])))
    → HasCleanDisk new → IsHonestJournal old
    → IsHonestJournal again × IsFoundAfter r (records_of old.now) entry (records_of again.now)
found_after (Ok x) old new again entry alive stored rest stop kept found clean honest =
    let still = alive honest clean in
    let got = kept (records_of new.now) (rest still) in
    (got.0, got.1 ∙ stored still)
found_after (Err e) old new again entry alive stored rest stop kept found clean honest =
    found (records_of old.now) entry (stop honest clean)

-- What storage may turn out to hold is found again, with or without a doubtful record.
pub contents_again : (self again : State) (certain : List Entry) (doubtful : Option Entry)
    → ((records : List Entry) → LeavesOnly self (λ left. left ≡ records)
    → IsHonestJournal again × (records_of again.now ≡ records))
    → ((records : List Entry) (r : Entry)
    → LeavesOnly self (λ left. (left ≡ records) ⊎ (left ≡ records ++ r ∷ []))
    → IsHonestJournal again × ((records_of again.now ≡ records)
    ⊎ (records_of again.now ≡ records ++ r ∷ [])))
    → LeavesOnly self (IsContents certain doubtful)
    → IsHonestJournal again × IsContents certain doubtful (records_of again.now)
contents_again self again certain None kept found leaves = kept certain leaves
contents_again self again certain (Some r) kept found leaves = found certain r leaves
