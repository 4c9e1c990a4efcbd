-- What a refused opening leaves: the first table was refused, or the second after it.
use Rattle.urb_sqlite.proofs.Common.{AddsTable, CommitsBy, CommitsEither, Database, Entry, Err}
use Rattle.urb_sqlite.proofs.Common.{First, HasCleanDisk, HasJournal, HasTable, IfErr, IsAdoptable}
use Rattle.urb_sqlite.proofs.Common.{IsFirstBad, IsLonger, IsPartOpened, IsPartRefused}
use Rattle.urb_sqlite.proofs.Common.{IsPermutation, KeepsCommit, Lacks, List, Ok, Result, Row}
use Rattle.urb_sqlite.proofs.Common.{Second, Spells, StoreFault, Survives, [], ap, arith}
use Rattle.urb_sqlite.proofs.Common.{create_text, false, inl, inr, is_bad_row, is_place}
use Rattle.urb_sqlite.proofs.Common.{journal_name, length, limit_of, map, second_name, second_text}
use Rattle.urb_sqlite.proofs.Common.{shown, subst, survives_weaker, sym, table_rows, ℕ, ◌+◌, ◌∙◌}
use Rattle.urb_sqlite.proofs.Common.{◌≡◌}
use Rattle.sqlite.specs.State.{State}
use Rattle.urb_stable.specs.declared.stable.StoreFault.TheVariants.{BadRow}
use Rattle.urb_sqlite.specs.OpenJournal.{IsGivenBack, KeepsRows, SparesRows}
use Rattle.urb_sqlite.specs.RecordRows.{IsFirstBadOf}
use Rattle.urb_sqlite.proofs.CreateStatement.{longer_then}
use Rattle.urb_sqlite.proofs.KeptRecords.{earlier_clean, keeps_if_left, keeps_then}
use Rattle.urb_sqlite.proofs.OpenedTables.{rows_none}
use Rattle.urb_sqlite.proofs.StoredRows.{rows_absent}
use Rattle.urb_sqlite.proofs.SpelledRows.{spells_if_read}
use Rattle.urb_sqlite.proofs.AcceptedOpenings.{StaysApart, stops_over}

-- two facts of a fault together
pub when_both_err : {X E : Type 0} (r : Result X E) (P Q R : E → Type 0)
    → ((e : E) → P e → Q e → R e) → IfErr r P → IfErr r Q → IfErr r R
when_both_err (Ok x) P Q R f p q = tt
when_both_err (Err e) P Q R f p q = f e p q

refused_first : (old new : State) (e : StoreFault) → IsPartRefused old new First 1 e
    → HasJournal old.now.schema → KeepsRows old new e
refused_first old new e it has = record { commit = inl (it.found has.0) }

spared_first : (old new : State) (e : StoreFault) → IsPartRefused old new First 1 e
    → SparesRows old new
spared_first old new e it = elim it.commit [
  | inl keeps ↦ inl keeps
  | inr adds ↦ inr (λ is_open. let added = adds is_open in (added.0, added.1.longer))
]

bad_first : (old new : State) (e : StoreFault) → IsPartRefused old new First 1 e
    → IsAdoptable old.now.schema → (at : ℕ) → e ≡ BadRow at → IsFirstBadOf old.now at
bad_first old new e it (inl has, second) at is = inl (it.bad at is has)
bad_first old new e it (inr none, second) at is =
    absurd (let n = ap is_bad_row (sym is) ∙ it.rowless none in cc)

-- the first table was refused
pub first_given_back : (old new : State) (e : StoreFault)
    → (HasCleanDisk new → IsPartRefused old new First 1 e) → is_place e ≡ false
    → Survives old new (CommitsBy create_text [] old) → IsGivenBack old new e
first_given_back old new e it placed stop = record {
  bad = λ clean. bad_first old new e (it clean);
  rowless = λ clean none lacks. (it clean).rowless none;
  placed = placed;
  kept = λ clean. refused_first old new e (it clean);
  spared = λ clean. spared_first old new e (it clean);
  stop =
      survives_weaker old new (CommitsBy create_text [] old) (CommitsEither old)
      (λ clean db by. inl by) stop;
}

module _ (old mid new : State) (place : ℕ) (e : StoreFault)
    (one : IsPartOpened old mid First 1 place) (two : IsPartRefused mid new Second place e) where
  refused_second : HasJournal old.now.schema → KeepsRows old new e
  refused_second has =
      let same = one.found has.0 in
      let was : KeepsCommit old mid = keeps_if_left old mid (inl same) in
      elim has.1 [
        | inl second ↦ record {
          commit =
              inl (keeps_then old mid new was
              (two.found (subst (λ (d : Database). HasTable d.schema second_name)
              (sym same.0.now_is) second)));
        }
        | inr none ↦
            let lacks : Lacks mid.now.schema second_name =
            subst (λ (d : Database). Lacks d.schema second_name) (sym same.0.now_is) none in
            elim two.commit [
              | inl keeps ↦ record { commit = inl (keeps_then old mid new was keeps) }
              | inr adds ↦ record {
                commit = inr (
                  λ is_open. (
                    same.0.was_open,
                    subst
                        (λ (d : Database). AddsTable d new.committed second_name) same.0.now_is
                        (adds is_open).1,
                  ),
                  two.rowless lacks,
                );
              }
            ]
      ]

  spared_second : SparesRows old new
  spared_second = elim one.most [
    | inl same ↦ elim two.commit [
      | inl keeps ↦ inl (keeps_then old mid new (keeps_if_left old mid (inl same)) keeps)
      | inr adds ↦ inr (λ is_open. (
        same.0.was_open,
        subst (λ (d : Database). IsLonger d new.committed) same.0.now_is (adds is_open).1.longer,
      ))
    ]
    | inr made ↦ inr (λ is_open. (
      made.was_open,
      elim two.commit [
        | inl keeps ↦ subst (IsLonger old.now)
            (one.settled (keeps.was_open is_open) ∙ sym (keeps.committed is_open)) made.adds.longer
        | inr adds ↦ longer_then old.now mid.now new.committed made.adds.longer
            (adds is_open).1.longer
      ],
    ))
  ]

  -- the records of the first table, before the second
  before : HasTable mid.now.schema journal_name
      → (records : List Entry) × Spells (limit_of First) 1 (table_rows mid.now journal_name) records
      × (place ≡ 1 + length records)
  before has =
      let read = one.read has in (
        read.records,
        spells_if_read (limit_of First) (omega arith) 1
            (table_rows mid.now journal_name) read.records (omega arith) read.read,
        read.place,
      )

  bad_both : HasTable old.now.schema journal_name → HasTable old.now.schema second_name → (at : ℕ)
      → e ≡ BadRow at → IsFirstBadOf old.now at
  bad_both has second at is =
      let same = (one.found has).0.now_is in
      let read = before (subst (λ (d : Database). HasTable d.schema journal_name) (sym same) has) in
      let bad =
      two.bad at is (subst (λ (d : Database). HasTable d.schema second_name) (sym same) second)
      in
      subst (λ (d : Database). IsFirstBadOf d at) same
      (inr (
        read.0,
        read.1,
        bad.0,
        bad.1,
        subst (λ n. IsFirstBad (limit_of Second) n bad.0 at) read.2 bad.2,
      ))

  -- if the first table was made, no record comes before the bad row
  bad_alone : Lacks old.now.schema journal_name → HasTable old.now.schema second_name → (at : ℕ)
      → e ≡ BadRow at → IsFirstBadOf old.now at
  bad_alone none second at is =
      let begun = one.made none in
      let kept = begun.adds.keeps second_name second in
      let read = before begun.adds.has in
      let bad = two.bad at is kept.0 in
      let rows : table_rows mid.now journal_name ≡ table_rows old.now journal_name =
      rows_none old.now mid.now journal_name begun.adds
      ∙ sym (rows_absent old.now journal_name none) in
      inr (
        read.0,
        subst (λ (rows : List Row). Spells (limit_of First) 1 rows read.0) rows read.1,
        bad.0,
        record {
          same = subst (λ (rows : List Row). IsPermutation (map shown rows) bad.0)
              kept.1 bad.1.same;
          sorted = bad.1.sorted;
        },
        subst (λ n. IsFirstBad (limit_of Second) n bad.0 at) read.2 bad.2,
      )

  bad_second : StaysApart old mid → IsAdoptable old.now.schema → (at : ℕ) → e ≡ BadRow at
      → IsFirstBadOf old.now at
  bad_second apart (inl has, inl second) at is = bad_both has second at is
  bad_second apart (inr none, inl second) at is = bad_alone none second at is
  bad_second apart (first, inr lacks) at is =
      absurd (let n = ap is_bad_row (sym is) ∙ two.rowless (apart lacks) in cc)

-- the second table was refused
module _ (old mid new : State) (place : ℕ) (e : StoreFault)
    (one : HasCleanDisk mid → IsPartOpened old mid First 1 place)
    (two : HasCleanDisk new → IsPartRefused mid new Second place e)
    (first : Survives old mid (CommitsBy create_text [] old))
    (second : Survives mid new (CommitsBy second_text [] mid)) where
  -- If the second table is refused after the first was opened, the database keeps its rows.
  pub second_given_back : (HasCleanDisk mid → StaysApart old mid) → is_place e ≡ false
      → IsGivenBack old new e
  second_given_back apart placed =
      let was : HasCleanDisk new → HasCleanDisk mid = earlier_clean mid new second.clean in
      record {
        bad = λ clean.
            bad_second old mid new place e (one (was clean)) (two clean) (apart (was clean));
        rowless = λ clean none lacks. (two clean).rowless (apart (was clean) lacks);
        placed = placed;
        kept = λ clean. refused_second old mid new place e (one (was clean)) (two clean);
        spared = λ clean. spared_second old mid new place e (one (was clean)) (two clean);
        stop = stops_over old mid new (λ clean. (one clean).most) first second;
      }
