-- Records that one transaction takes out of a journal.
use Rattle.urb_sqlite.proofs.Common.{AtPlace, Database, Enforced, Entry, Executes, ExecutesIn}
use Rattle.urb_sqlite.proofs.Common.{HasBoth, HasCleanDisk, Int, IsCounted, IsHonestJournal}
use Rattle.urb_sqlite.proofs.Common.{IsInStep, IsJournal, IsKept, IsLive, LeavesOnly, List}
use Rattle.urb_sqlite.proofs.Common.{None, Ok, OnRows, Option, Row, Some, StandsFor, Survives}
use Rattle.urb_sqlite.proofs.Common.{Tally, [], ap, arith, cases_Bool, database_of, false, inl, inr}
use Rattle.urb_sqlite.proofs.Common.{length, length-append, mode_of, pos, records_of}
use Rattle.urb_sqlite.proofs.Common.{refl, second_name, slice_get, subst, survives_then, sym, take}
use Rattle.urb_sqlite.proofs.Common.{text_of, ℕ, ◌++◌, ◌+◌, ◌∙◌, ◌∷◌, ◌≡◌, ◌≤◌, ◌⊎◌}
use Rattle.sqlite.specs.Clock.{timed}
use Rattle.sqlite.specs.Command.TheVariants.{Delete}
use Rattle.sqlite.specs.State.{ExecutesInside, Runs, Shows, State, Writes, shows_rows}
use Rattle.sqlite.specs.Table.{Table}
use Rattle.sqlite.specs.Tree.{Trees}
use Rattle.sqlite.specs.View.{doubt}
use Rattle.sqlite_schema.specs.declared.program.Program.{Program}
use Rattle.urb_sqlite.specs.internal.TableReferences.{RefersToNone}
use Rattle.urb_sqlite.specs.internal.JournalStatements.{delete_text}
use Rattle.urb_sqlite.specs.internal.TransactionChanges.{AreTakenOut, EmptiesTo, HasFewer, IsBegun}
use Rattle.urb_sqlite.specs.internal.TransactionChanges.{IsEmptied, IsEmptying}
use Rattle.urb_sqlite.proofs.AnySchema.{deletes_in_any}
use Rattle.urb_sqlite.proofs.DeleteStatement.{delete_parsed, removes}
use Rattle.urb_sqlite.proofs.FewerRows.{stands_fewer}
use Rattle.urb_sqlite.proofs.InsertStatement.{same_value, went}
use Rattle.urb_sqlite.proofs.KeptRecords.{IsOwnWrite, IsSettled, earlier_clean, first_kept}
use Rattle.urb_sqlite.proofs.KeptRecords.{journal_of, last_commit, same_first}
use Rattle.urb_sqlite.proofs.TransactionRecords.{has_then}
use Rattle.urb_sqlite.proofs.StoredRows.{records_are}

-- ---- inside the transaction

-- whatever the schema is, a DELETE that succeeds keeps it, and is committed outside a transaction
takes_in_any : (params : Row) (old new : State) (count : ℕ)
    → Executes delete_text params old new (Ok count) → IsOwnWrite old new
unfolding ExecutesIn
takes_in_any params old new count h =
    let c = h.0 in
    let full = timed params c.formats h.1.now in
    let is = deletes_in_any delete_text second_name delete_parsed old.now.schema c h.1.is in
    let ran : Runs old new c.returning c.command (text_of delete_text c) full count =
    elim (cases_Bool (shows_rows false c)) [
      | inl shows ↦ absurd (let e = (rw shows at h.2).0 in cc)
      | inr runs ↦ rw runs at h.2
    ] in
    let w : Writes old new None (Delete is.0.0 is.0.1) (text_of delete_text c) full count =
    rw (is.1, is.0.2) at ran in
    record {
      schema =
          same_schema is.0.0 is.0.1 full (slice_get old.now.schema.tables is.0.0) w.tally w.changed;
      committed = λ auto. sym (rw auto at w.shown.committed_is);
      mode = w.shown.mode;
      was_open = w.shown.was_open;
      is_open = w.shown.is_open;
      sound = w.sound;
    }
  where
    same_schema : (at : ℕ) (q : Program) (full : Row) (o : Option Table) (tally : Tally)
        → AtPlace (λ table. OnRows (record {
          limit = old.step_limit;
          keys = Enforced;
          schema = old.now.schema;
          table =
              table;
          params = full;
        }) (mode_of old) None (Delete at q) old.now.trees) o
        (Ok (tally, new.now))
        → new.now.schema ≡ old.now.schema
    same_schema at q full None tally done = absurd (let e = done in cc)
    same_schema at q full (Some table) tally done =
        ap (λ (p : Tally × Database). p.1.schema) (same_value (went (went (went done).2).2).2)

-- the DELETE takes out the last records, as many as it says
fewer_by : (old new : State) (first count : ℕ) → RefersToNone old.now.schema
    → Executes delete_text (Int (pos first) ∷ []) old new (Ok count)
    → HasFewer old.now new.now first count
fewer_by old new first count apart ran = record {
  schema = (takes_in_any (Int (pos first) ∷ []) old new count ran).schema;
  counted = counted;
}
  where
    counted : HasBoth old.now.schema → IsCounted old.now (first + count) → (gone : List Entry)
        × (records_of old.now ≡ records_of new.now ++ gone) × (length gone ≡ count)
        × IsCounted new.now first
    counted has k =
        let taken =
        removes delete_text second_name delete_parsed old new first count has.second apart ran in
        let it =
        stands_fewer old.now new.now (records_of old.now) first count has k.stands taken
        (first_kept old.now.schema old.now.trees new.now.trees has taken.others) in
        let records = records_are new.now it.kept it.stands in
        let size =
        ap length it.whole ∙ length-append it.kept it.gone in (
          it.gone,
          it.whole ∙ ap (λ (xs : List Entry). xs ++ it.gone) (sym records),
          it.count_is,
          record {
            stands = subst (StandsFor new.now) (sym records) it.stands;
            place = rw records (omega (arith, k.place, size, it.count_is));
          },
        )

-- a transaction that begins with the DELETE has taken out the last records
pub emptying : (old mid new : State) (first count : ℕ) → IsBegun old mid → RefersToNone old.now.schema
    → ExecutesInside 0 delete_text (Int (pos first) ∷ []) mid new (Ok count)
    → IsEmptying old new first count
emptying old mid new first count begun apart ran =
    let own = takes_in_any (Int (pos first) ∷ []) mid new count ran.0 in
    record {
      fewer =
          subst (λ (d : Database). HasFewer d new.now first count) begun.now_is
          (fewer_by mid new first count
          (subst (λ (d : Database). RefersToNone d.schema) (sym begun.now_is) apart) ran.0);
      was_open = begun.was_open own.was_open;
      committed = ran.1.committed_is ∙ begun.committed_is;
      mode = ran.1.mode;
      sound = own.sound;
    }

-- ---- its end

-- A stop leaves what was before, or the database without the last records.
pub emptied_survives : (old last new : State) (first count : ℕ)
    → Survives old last (λ _. ⊥) → Survives last new (λ db. db ≡ last.now.trees)
    → (HasCleanDisk last → IsEmptying old last first count)
    → Survives old new (EmptiesTo old first count)
emptied_survives old last new first count one two h =
    survives_then old last new (λ _. ⊥) (λ db. db ≡ last.now.trees) (EmptiesTo old first count)
    (λ _ db none. absurd none)
    (λ clean db is. let it = h (omega (arith, clean, two.clean)) in
    (last.now, it.fewer, it.sound, is)) one two

-- a transaction that has taken out the last records was committed
pub emptied : (old last new : State) (first count : ℕ) → IsEmptying old last first count
    → Shows last new last.now last.now false → IsEmptied old new first count
emptied old last new first count h end = record {
  fewer = subst (λ (d : Database). HasFewer old.now d first count) (sym end.now_is) h.fewer;
  settled = end.now_is ∙ sym end.committed_is;
  was_open = h.was_open;
  is_open = end.is_open;
  mode = end.mode;
}

-- ---- the journal

-- records that one transaction has taken out are gone from the journal
pub taken_out : (old new : State) (first count : ℕ) → IsInStep old (first + count)
    → doubt old.is_clean ≤ doubt new.is_clean → (HasCleanDisk new → IsEmptied old new first count)
    → AreTakenOut old new first count
taken_out old new first count step below how =
    let counted =
    λ (clean : HasCleanDisk new) (has : HasBoth new.now.schema).
    let it = how clean in
    let was = has_then old.now new.now it.fewer.schema has in
    it.fewer.counted was
    ((step (earlier_clean old new below clean) it.was_open).counted was) in
    record {
      kept = λ clean is_open. record {
        autocommit = (how clean).mode;
        settled = (how clean).settled;
        counted = λ has. (counted clean has).3;
      };
      honest = λ h. record {
        clean = earlier_clean old new below h.clean;
        is_open = (how h.clean).was_open;
        schema = has_then old.now new.now (how h.clean).fewer.schema h.schema;
      };
      alive = λ was clean. record {
        clean = clean;
        is_open = (how clean).is_open;
        schema = same_first (how clean).fewer.schema was.schema;
      };
      records = λ h. let it = counted h.clean h.schema in (it.0, it.1, it.2);
    }

-- the first elements of two lists, one after the other, are those of the first list
take_front : (xs ys : List Entry) → take (length xs) (xs ++ ys) ≡ xs
take_front [] ys = refl
take_front (x ∷ xs) ys = ap (λ l. x ∷ l) (take_front xs ys)

-- if a list is split twice and both ends are equally long, both beginnings are equal
same_front : (xs us ys vs : List Entry) → xs ++ us ≡ ys ++ vs → length us ≡ length vs → xs ≡ ys
same_front xs us ys vs e size =
    let all = ap length e in
    let long : length xs ≡ length ys =
    omega (arith, all, length-append xs us, length-append ys vs, size) in
    sym (take_front xs us) ∙ ap (take (length xs)) e ∙ ap (λ n. take n (ys ++ vs)) long
    ∙ take_front ys vs

-- A stop inside the call leaves the records before the last ones, or all of them.
pub stops_at_delete : (old new : State) (first count : ℕ) → IsInStep old (first + count)
    → IsSettled old → IsLive old → Survives old new (EmptiesTo old first count)
    → IsHonestJournal old → HasCleanDisk new → (kept gone : List Entry)
    → records_of old.now ≡ kept ++ gone → length gone ≡ count
    → LeavesOnly new (λ records. (records ≡ kept) ⊎ (records ≡ kept ++ gone))
stops_at_delete old new first count step settled live survives honest clean kept gone whole size db
    left =
    let was = step honest.clean honest.is_open in
    elim (survives.crash clean db left) [
      | inl before ↦ let it =
          last_commit old (first + count) db settled live honest was before in
          (it.0, records_of old.now, it.1, inr whole)
      | inr after ↦ let it = made after was in
          (it.0, kept, it.1, inl refl)
    ]
  where
    made : EmptiesTo old first count db → IsKept old (first + count)
        → (journal : IsJournal db) × StandsFor (database_of journal) kept
    made (d, fewer, sound, is) was =
        let has : HasBoth d.schema = same_first fewer.schema honest.schema in
        let it = fewer.counted honest.schema (was.counted honest.schema) in
        let same : records_of d ≡ kept =
        same_front (records_of d) it.0 kept gone (sym it.1 ∙ whole) (it.2 ∙ sym size) in
        subst (λ (t : Trees). (journal : IsJournal t)
        × StandsFor (database_of journal) kept) (sym is) (
          journal_of d.schema d.trees has sound,
          subst (λ (xs : List Entry). StandsFor d xs) same
              it.3.stands,
        )
