-- Records that one transaction adds to a journal.
use Rattle.urb_sqlite.proofs.Common.{AreAdded, Database, Entry, Err, FillsTo, HasBoth, HasCleanDisk}
use Rattle.urb_sqlite.proofs.Common.{IsAppended, IsCounted, IsEntry, IsFilled, IsFilling}
use Rattle.urb_sqlite.proofs.Common.{IsHonestJournal, IsInStep, IsJournal, IsKept, IsLeft, IsLive}
use Rattle.urb_sqlite.proofs.Common.{IsTrue, LeavesOnly, List, Ok, OnOk, Result, StandsFor}
use Rattle.urb_sqlite.proofs.Common.{Survives, [], ap, append_assoc, arith, database_of, false, inl}
use Rattle.urb_sqlite.proofs.Common.{inr, insert_text, length, length-append, length-take-le}
use Rattle.urb_sqlite.proofs.Common.{records_of, refl, row_of, slice_index_or, subst, survives_then}
use Rattle.urb_sqlite.proofs.Common.{sym, take, ℕ, ◌++◌, ◌+◌, ◌<◌, ◌∙◌, ◌∷◌, ◌≡◌, ◌≤◌, ◌⊎◌}
use Rattle.sqlite.specs.Tree.{Trees}
use Rattle.sqlite.specs.View.{doubt}
use Rattle.sqlite.specs.State.{ExecutesInside, Shows, State}
use Rattle.urb_sqlite.specs.internal.TransactionChanges.{HasMore, IsUndone}
use Rattle.urb_sqlite.proofs.KeptRecords.{IsSame, IsSettled, adds_record, earlier_clean, journal_of}
use Rattle.urb_sqlite.proofs.KeptRecords.{kept_same, last_commit, same_first, same_journal}
use Rattle.urb_sqlite.proofs.KeptRecords.{writes_in_any}

-- ---- inside the transaction

-- one more row inside the transaction
pub filling_more : (old mid new : State) (place : ℕ) (rs : List Entry) (r : Entry) (count : ℕ)
    → IsFilling old mid place rs → place + length rs < 4294967295 → IsEntry r
    → ExecutesInside 0 insert_text (row_of (place + length rs) r) mid new (Ok count)
    → IsFilling old new place (rs ++ r ∷ [])
filling_more old mid new place rs r count h low valid ran =
    let own = writes_in_any (row_of (place + length rs) r) mid new count ran.0 in
    record {
      more = record {
        schema = own.schema ∙ h.more.schema;
        counted = λ has k.
            let was = h.more.counted has k in
            let added =
            adds_record mid new (place + length rs) r count (same_first h.more.schema has)
            was.1 low valid ran.0 in (
              added.records ∙ ap (λ (xs : List Entry). xs ++ r ∷ []) was.0
                  ∙ append_assoc (records_of old.now) rs (r ∷ []),
              subst (IsCounted new.now) (omega (arith, length-append rs (r ∷ []))) added.counted,
            );
      };
      was_open = λ _. h.was_open own.was_open;
      is_open = λ _. own.is_open;
      committed = ran.1.committed_is ∙ h.committed;
      mode = ran.1.mode;
      sound = λ _ _. own.sound;
    }

-- the same for the next record of a list
pub filling_on : (old mid new : State) (place at : ℕ) (entries : List Entry) (i : ℕ) (r : Entry)
    (count : ℕ) → IsFilling old mid place (take i entries) → at ≡ place + i → i < length entries
    → place + length entries ≤ 4294967295 → IsEntry r
    → ExecutesInside 0 insert_text (row_of at r) mid new (Ok count)
    → IsFilling old new place (take i entries ++ r ∷ [])
filling_on old mid new place at entries i r count h is less low valid ran =
    let len : length (take i entries) ≡ i = length-take-le i entries (omega (arith, less)) in
    let here : at ≡ place + length (take i entries) = omega (arith, is, len) in
    filling_more old mid new place (take i entries) r count h (omega (arith, len, less, low)) valid
    (subst (λ (n : ℕ). ExecutesInside 0 insert_text (row_of n r) mid new (Ok count)) here ran)

-- ---- its end

-- A stop leaves what was before, or all of the records.
pub filled_survives : (old last new : State) (place : ℕ) (rs : List Entry)
    → Survives old last (λ _. ⊥) → Survives last new (λ db. db ≡ last.now.trees)
    → (HasCleanDisk last → IsFilling old last place rs) → Survives old new (FillsTo old place rs)
filled_survives old last new place rs one two h =
    survives_then old last new (λ _. ⊥) (λ db. db ≡ last.now.trees) (FillsTo old place rs)
    (λ _ db none. absurd none)
    (λ clean db is. let it = h (omega (arith, clean, two.clean)) in
    (last.now, it.more, it.sound, is)) one two

-- a transaction with these records was committed
pub filled : (old last new : State) (place : ℕ) (rs : List Entry) → IsFilling old last place rs
    → Shows last new last.now last.now false → IsFilled old new place rs
filled old last new place rs h end = record {
  more = subst (λ (d : Database). HasMore old.now d place rs) (sym end.now_is) h.more;
  settled = end.now_is ∙ sym end.committed_is;
  was_open = h.was_open end.was_open;
  is_open = end.is_open;
  mode = end.mode;
}

-- ---- the journal

-- if both tables are there after a call that keeps the schema, they were there before
pub has_then : (old new : Database) → new.schema ≡ old.schema → HasBoth new.schema → HasBoth old.schema
has_then old new same has = same_first (sym same) has

-- records that one transaction committed are added to the journal
pub added_all : (old new : State) (place : ℕ) (rs : List Entry) → IsInStep old place
    → doubt old.is_clean ≤ doubt new.is_clean → (HasCleanDisk new → IsFilled old new place rs)
    → AreAdded old new place rs
added_all old new place rs step below how =
    let counted =
    λ (clean : HasCleanDisk new) (has : HasBoth new.now.schema).
    let it = how clean in
    let was = has_then old.now new.now it.more.schema has in
    it.more.counted was
    ((step (earlier_clean old new below clean) it.was_open).counted was) in
    record {
      kept = λ clean is_open. record {
        autocommit = (how clean).mode;
        settled = (how clean).settled;
        counted = λ has. (counted clean has).1;
      };
      honest = λ h. record {
        clean = earlier_clean old new below h.clean;
        is_open = (how h.clean).was_open;
        schema = has_then old.now new.now (how h.clean).more.schema h.schema;
      };
      alive = λ was clean. record {
        clean = clean;
        is_open = (how clean).is_open;
        schema = same_first (how clean).more.schema was.schema;
      };
      records = λ h. (counted h.clean h.schema).0;
    }

same_undone : (old new : State) → old.now ≡ old.committed → IsUndone old new → IsSame old new
same_undone old new settled h = record {
  was_open = h.was_open;
  now_is = λ o. h.now_is o ∙ sym settled;
  committed_is = h.committed_is;
  autocommit = λ _. h.autocommit;
}

-- if the transaction was rolled back, no row changes
pub left_undone : (old new : State) (place : ℕ) → IsInStep old place
    → doubt old.is_clean ≤ doubt new.is_clean → (HasCleanDisk new → IsUndone old new)
    → IsLeft old new place
left_undone old new place step below how =
    let was =
    λ (clean : HasCleanDisk new) (is_open : IsTrue new.is_open).
    step (earlier_clean old new below clean) ((how clean).was_open is_open) in
    let same =
    λ (clean : HasCleanDisk new) (is_open : IsTrue new.is_open).
    same_undone old new (was clean is_open).settled (how clean) in
    record {
      kept =
          λ clean is_open. kept_same old new place is_open (same clean is_open) (was clean is_open);
      honest = λ h. record {
        clean = earlier_clean old new below h.clean;
        is_open = (how h.clean).was_open h.is_open;
        schema = same_journal (sym ((same h.clean h.is_open).now_is h.is_open)) h.schema;
      };
      alive = λ h clean is_open. record {
        clean = clean;
        is_open = is_open;
        schema = same_journal ((same clean is_open).now_is is_open) h.schema;
      };
      records =
          λ h. ap (λ (d : Database). records_of d) ((same h.clean h.is_open).now_is h.is_open);
    }

-- A stop inside the call leaves the records before it, or these and all of the new ones.
pub stops_at_inserts : (old new : State) (place : ℕ) (rs : List Entry) → IsInStep old place
    → IsSettled old → IsLive old → Survives old new (FillsTo old place rs) → IsHonestJournal old
    → HasCleanDisk new
    → LeavesOnly new (λ records. (records ≡ records_of old.now)
    ⊎ (records ≡ records_of old.now ++ rs))
stops_at_inserts old new place rs step settled live survives honest clean db left =
    let kept = step honest.clean honest.is_open in
    elim (survives.crash clean db left) [
      | inl before ↦ let it =
          last_commit old place db settled live honest kept before in
          (it.0, records_of old.now, it.1, inl refl)
      | inr after ↦ let it = made after kept in
          (it.0, records_of old.now ++ rs, it.1, inr refl)
    ]
  where
    made : FillsTo old place rs db → IsKept old place
        → (journal : IsJournal db)
        × StandsFor (database_of journal) (records_of old.now ++ rs)
    made (d, more, sound, is) kept =
        let has : HasBoth d.schema = same_first more.schema honest.schema in
        let it = more.counted honest.schema (kept.counted honest.schema) in
        subst (λ (t : Trees). (journal : IsJournal t)
        × StandsFor (database_of journal) (records_of old.now ++ rs)) (sym is) (
          journal_of d.schema d.trees has (sound live honest.is_open),
          subst (λ (xs : List Entry). StandsFor d xs) it.0 it.1.stands,
        )

-- ---- one record alone, and no call at all

-- one record that an INSERT added is all of a list of one
pub alone_added : (old new : State) (place : ℕ) (r : Entry) → IsAppended old new place r
    → AreAdded old new place (r ∷ [])
alone_added old new place r h =
    record { kept = h.kept; honest = h.honest; alive = h.alive; records = h.records }

-- without a call, no row changes
pub left_still : (s : State) (place : ℕ) → IsInStep s place → IsLeft s s place
left_still s place step = record {
  kept = step;
  honest = λ h. h;
  alive = λ h _ _. h;
  records = λ _. refl;
}

-- a list with one element is this element alone
pub one-alone : {X : Type 0} (xs : List X) (x : X) → 0 < length xs → length xs < 2
    → x ≡ slice_index_or xs 0 x → xs ≡ x ∷ []
one-alone [] x some few is = absurd (omega arith)
one-alone (y ∷ []) x some few is = ap (λ z. z ∷ []) (sym is)
one-alone (y ∷ z ∷ ys) x some few is = absurd (omega (arith, few))

-- what holds after Ok, and what follows from it
pub ok-then : {T E P Q : Type 0} (result : Result T E) → (P → Q) → OnOk result P → OnOk result Q
ok-then (Ok value) f h = f h
ok-then (Err e) f h = tt
