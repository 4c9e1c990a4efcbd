-- What an opening finds, depending on what the files held, and one more journal after others.
use Rattle.urb_sqlite.proofs.Common.{Entry, HasCleanDisk, HoldsDatabase, Image, IsBlankFile}
use Rattle.urb_sqlite.proofs.Common.{IsFoundIn, IsHonestJournal, IsLive, IsNothing, IsSome}
use Rattle.urb_sqlite.proofs.Common.{IsTakenOver, Lacks, List, MAX_NODES, MatchOption, None, Opens}
use Rattle.urb_sqlite.proofs.Common.{Option, Some, [], arith, inl, inr, journal_name, length}
use Rattle.urb_sqlite.proofs.Common.{records_of, refl, second_name, slice_get, subst, suc, zero, ℕ}
use Rattle.urb_sqlite.proofs.Common.{◌++◌, ◌+◌, ◌<◌, ◌∷◌, ◌≡◌, ◌≤◌}
use Rattle.sqlite_trees.specs.Tree.{Trees}
use Rattle.sqlite.specs.Start.{FindsIn}
use Rattle.sqlite.specs.State.{State}
use Rattle.urb_sqlite.specs.FoundJournals.{IsFoundIf}
use Rattle.urb_sqlite.proofs.JournalSchemas.{empty_is_nothing, finds_bare, finds_base}
use Rattle.urb_sqlite.proofs.JournalSchemas.{finds_journal, finds_nothing}
use Rattle.urb_sqlite.proofs.KeptRecords.{earlier_clean}

-- A database that was opened from files and then taken over.
module _ (conn now : State) (image : Image) (opened : HasCleanDisk conn → Opens conn × IsLive conn)
    (finds : HasCleanDisk conn → FindsIn image conn) (taken : IsTakenOver conn now) where
  was : HasCleanDisk now → HasCleanDisk conn
  was = earlier_clean conn now taken.stop.clean

  without_tables : HasCleanDisk now → ((name : List ℕ) → Lacks conn.now.schema name)
      → IsHonestJournal now × (records_of now.now ≡ [])
  without_tables clean lacks = taken.fresh clean (lacks journal_name) (lacks second_name)

  -- An opened journal has the records that its files held, in each case that `IsFoundIf` names.
  pub found_there : IsFoundIf (IsNothing image) image (HasCleanDisk now) (IsHonestJournal now)
      (records_of now.now)
  found_there = record {
    stood = λ clean db holds journal.
        let it = opened (was clean) in
        finds_journal conn now db it.1 it.0 ((finds (was clean)).holds db holds) journal
        (taken.found clean);
    fresh = λ clean none.
        let it = opened (was clean) in
        without_tables clean (finds_nothing conn image it.1 it.0 (empty_is_nothing image none)
        (finds (was clean)).reads);
    unmade = λ clean none.
        let it = opened (was clean) in
        without_tables clean (finds_nothing conn image it.1 it.0 none (finds (was clean)).reads);
    empty = λ clean db holds bare.
        let it = opened (was clean) in
        without_tables clean (finds_bare conn db it.1 it.0 ((finds (was clean)).holds db holds)
        bare);
    adopted = λ clean db holds base.
        let it = opened (was clean) in
        finds_base conn now db it.1 it.0 ((finds (was clean)).holds db holds) base
        (taken.found clean);
  }

-- Files that hold no database get one, and the journal is new.
pub found_new : (image : Image) (is_clean is_honest : Type 0) (records : List Entry)
    → (is_clean → (db : Trees) → HoldsDatabase image db → ⊥)
    → (is_clean → is_honest × (records ≡ [])) → IsFoundIn image is_clean is_honest records
found_new image is_clean is_honest records none new = record {
  stood = λ clean db holds journal. absurd (none clean db holds);
  fresh = λ clean _. new clean;
  unmade = λ clean _. new clean;
  empty = λ clean db holds bare. absurd (none clean db holds);
  adopted = λ clean db holds base. absurd (none clean db holds);
}

-- Files that hold no database, after those with the smaller page size were ruled out.
pub found_in : (seen held : Image) (is_clean is_honest : Type 0) (records : List Entry)
    → seen ≡ held → (is_clean → ¬ IsBlankFile 1024 held)
    → IsFoundIf (IsNothing seen) seen is_clean is_honest records
    → IsFoundIn held is_clean is_honest records
found_in seen held is_clean is_honest records same never there =
    let it : IsFoundIf (IsNothing held) held is_clean is_honest records =
    subst (λ (image : Image). IsFoundIf (IsNothing image) image is_clean is_honest records)
    same there in
    record {
      stood = it.stood;
      fresh = it.fresh;
      unmade = λ clean unmade. elim unmade [
        | inl small ↦ absurd (never clean small)
        | inr none ↦ it.unmade clean none
      ];
      empty = it.empty;
      adopted = it.adopted;
    }

found_behind : {S : Type 0} (P : ℕ → S → Type 0) (xs : List S) (x : S)
    → ((i : ℕ) (y : S) → slice_get xs i ≡ Some y → P i y) → P (length xs) x
    → (i : ℕ) (y : S) → slice_get (xs ++ x ∷ []) i ≡ Some y → P i y
found_behind P [] x old last zero y e = (let same : x ≡ y = cc in subst (P 0) same last)
found_behind P [] x old last (suc i) y e = cc
found_behind P (z ∷ xs) x old last zero y e = old zero y e
found_behind P (z ∷ xs) x old last (suc i) y e =
    found_behind (λ k. P (suc k)) xs x (λ k w h. old (suc k) w h) last i y e

-- the journal of the next node, after those of the earlier nodes
pub one_more : {S : Type 0} (before after : List S) (next : S) (clean honest : S → Type 0)
    (records : S → List Entry) (held : ℕ → Image) (node : ℕ) → after ≡ before ++ next ∷ []
    → node ≡ suc (length before)
    → ((i : ℕ) (y : S) → slice_get before i ≡ Some y
    → IsFoundIn (held (suc i)) (clean y) (honest y) (records y))
    → IsFoundIn (held node) (clean next) (honest next) (records next)
    → (i : ℕ) (y : S) → slice_get after i ≡ Some y
    → IsFoundIn (held (suc i)) (clean y) (honest y) (records y)
one_more before after next clean honest records held node grown counted earlier last i y got =
    found_behind (λ i y. IsFoundIn (held (suc i)) (clean y) (honest y) (records y))
    before next earlier
    (subst (λ n. IsFoundIn (held n) (clean next) (honest next) (records next)) counted last)
    i y (subst (λ xs. slice_get xs i ≡ Some y) grown got)

-- there is a claim for the next node of a group
pub next_claim : (claim : Option ℕ) (old new at n : ℕ)
    → MatchOption claim ((new ≡ old) × (MAX_NODES ≤ old))
    (λ c. (old < MAX_NODES) × (c ≡ suc old) × (new ≡ suc old))
    → old ≡ at → at < n → n ≤ MAX_NODES → IsSome claim
next_claim None old new at n is same less most =
    absurd (omega (arith, is.1, same, less, most))
next_claim (Some claim) old new at n is same less most = refl

-- the claim that was given is that of the next node, and the node after it is next
pub claimed : (claim : Option ℕ) (it old new at : ℕ)
    → MatchOption claim ((new ≡ old) × (MAX_NODES ≤ old))
    (λ c. (old < MAX_NODES) × (c ≡ suc old) × (new ≡ suc old))
    → claim ≡ Some it → old ≡ at → (it ≡ suc at) × (new ≡ at + 1)
claimed None it old new at is given same = absurd (let e = given in cc)
claimed (Some claim) it old new at is given same =
    let e : claim ≡ it = (let f = given in cc) in
    (omega (arith, is.1, e, same), omega (arith, is.2, same))

-- a loop over `end` places that has ended has made as many
pub made_all : (count at end n : ℕ) → count ≡ at → end ≤ at → at ≤ end → end ≡ n → count ≡ n
made_all count at end n made ended within same = omega (arith, made, ended, within, same)
