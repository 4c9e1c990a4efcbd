-- Reading both tables, one call after the other: the first call changes nothing, and the second
-- reads on from the place where the first ended.
use Rattle.urb_sqlite.proofs.Common.{Database, Entry, First, HasBoth, HasCleanDisk, HasTable}
use Rattle.urb_sqlite.proofs.Common.{IsHonestJournal, IsInStep, IsLive, IsRolledBack, IsSafeAtRest}
use Rattle.urb_sqlite.proofs.Common.{IsTrue, IsUnchanged, List, Ok, Second, StandsFor, Survives, ap}
use Rattle.urb_sqlite.proofs.Common.{inl, inr, journal_name, length, limit_of, read_from}
use Rattle.urb_sqlite.proofs.Common.{records_of, second_name, subst, survives_then, sym, table_rows}
use Rattle.urb_sqlite.proofs.Common.{ℕ, ◌++◌, ◌+◌, ◌∙◌, ◌≡◌, ◌⊎◌}
use Rattle.sqlite.specs.State.{State}
use Rattle.urb_sqlite.proofs.StoredRows.{first_read, records_are, second_read, stands_by}
use Rattle.urb_sqlite.proofs.KeptRecords.{IsSettled, earlier_clean, left, same_journal, stops_now}

-- ---- two calls, the first of which changes nothing

-- two calls that change nothing, one after the other, change nothing
pub unchanged_then : (a b c : State) → IsUnchanged a b → IsUnchanged b c → IsUnchanged a c
unchanged_then a b c p q = (
  record {
    was_open = p.0.was_open;
    is_open = q.0.is_open;
    now_is = q.0.now_is ∙ p.0.now_is;
    committed_is = q.0.committed_is ∙ p.0.committed_is;
    mode = q.0.mode ∙ p.0.mode;
  },
  record { changes = q.1.changes ∙ p.1.changes; last_rowid = q.1.last_rowid ∙ p.1.last_rowid },
  q.2 ∙ p.2,
)

undone_then : (a b c : State) → IsUnchanged a b → IsRolledBack b c → IsRolledBack a c
undone_then a b c p q = record {
  was_open = λ _. p.0.was_open;
  undone =
      λ is_open. ((q.undone is_open).0 ∙ p.0.committed_is, (q.undone is_open).1 ∙ p.0.committed_is);
  autocommit = q.autocommit;
  unmarked = q.unmarked;
  counts = record {
    changes = q.counts.changes ∙ p.1.changes;
    last_rowid =
        q.counts.last_rowid ∙ p.1.last_rowid;
  };
}

-- a call that changes nothing and one that changes nothing or rolls back do no more together
pub left_then : (a b c : State) → IsUnchanged a b → IsUnchanged b c ⊎ IsRolledBack b c
    → IsUnchanged a c ⊎ IsRolledBack a c
left_then a b c p (inl same) = inl (unchanged_then a b c p same)
left_then a b c p (inr undone) = inr (undone_then a b c p undone)

-- if two calls commit nothing, a crash after them leaves only what it could leave before them
pub survives_both : (a b c : State) → Survives a b (λ _. ⊥) → Survives b c (λ _. ⊥)
    → Survives a c (λ _. ⊥)
survives_both a b c =
    survives_then a b c (λ _. ⊥) (λ _. ⊥) (λ _. ⊥) (λ clean db none. none) (λ clean db none. none)

-- if the disk is clean after a call, it was clean before
pub earlier : (b c : State) → Survives b c (λ _. ⊥) → HasCleanDisk c → HasCleanDisk b
earlier b c survives = earlier_clean b c survives.clean

-- a table that is there is still there after a call that changes nothing
pub still_there : (old mid : State) (name : List ℕ) → IsUnchanged old mid
    → HasTable old.now.schema name → HasTable mid.now.schema name
still_there old mid name same has =
    subst (λ (d : Database). HasTable d.schema name) (sym same.0.now_is) has

-- ---- the records of both

-- the rows of the second table, read after the records of the first
abbrev ReadsOn : Database → ℕ → List Entry → Type 0
ReadsOn d place second = read_from (limit_of Second) place (table_rows d second_name) ≡ Ok second

reads_on : (old mid : State) (place next : ℕ) (second : List Entry) → IsUnchanged old mid
    → place ≡ next → ReadsOn mid.now place second → ReadsOn old.now next second
reads_on old mid place next second same at read =
    subst (λ n. ReadsOn old.now n second) at
    (subst (λ d. ReadsOn d place second) same.0.now_is read)

-- if both tables were read one after the other, they stand for the records that were read
pub stands_when_read : (old mid : State) (place : ℕ) (first second all : List Entry)
    → IsUnchanged old mid → place ≡ 1 + length first
    → read_from (limit_of First) 1 (table_rows old.now journal_name) ≡ Ok first
    → ReadsOn mid.now place second → all ≡ first ++ second → StandsFor old.now all
stands_when_read old mid place first second all same at one two whole =
    subst (StandsFor old.now) (sym whole)
    (stands_by old.now first second one
    (reads_on old mid place (1 + length first) second same at two))

-- If the tables stand for records, the second is read from the place after those of the first.
pub second_is_read : (old mid : State) (place : ℕ) (first all : List Entry) → IsUnchanged old mid
    → place ≡ 1 + length first
    → read_from (limit_of First) 1 (table_rows old.now journal_name) ≡ Ok first
    → (stands : StandsFor old.now all) → ReadsOn mid.now place stands.second
second_is_read old mid place first all same at one stands =
    let firsts : stands.first ≡ first =
    let e : Ok stands.first ≡ Ok first = sym (first_read old.now all stands) ∙ one in cc in
    let behind : ReadsOn old.now (1 + length stands.first) stands.second =
    second_read old.now all stands in
    let here : 1 + length stands.first ≡ place =
    ap (λ (rs : List Entry). 1 + length rs) firsts ∙ sym at in
    subst (λ d. ReadsOn d place stands.second) (sym same.0.now_is)
    (subst (λ n. ReadsOn old.now n stands.second) here behind)

-- What was read is what the journal showed before, and still shows.
pub given_by_read : (old new : State) (records : List Entry) → IsHonestJournal new
    → IsUnchanged old new → (HasBoth old.now.schema → StandsFor old.now records)
    → (records_of new.now ≡ records) × (records ≡ records_of old.now)
given_by_read old new records honest same read =
    let has = same_journal (sym same.0.now_is) honest.schema in
    let is = records_are old.now records (read has) in
    (ap (λ (d : Database). records_of d) same.0.now_is ∙ is, sym is)

-- ---- a stop behind them

-- If the next position agreed with the rows, a stop after reading both tables leaves the journal's
-- records.
pub safe_after : (old new : State) (next : ℕ) → Survives old new (λ _. ⊥)
    → (HasCleanDisk new → IsUnchanged old new ⊎ IsRolledBack old new)
    → (IsTrue new.is_open → IsSettled new) → IsLive new → IsInStep old next → IsSafeAtRest new
safe_after old new next survives how settled live step =
    stops_now new next (left old new next step survives.clean how).kept settled live
