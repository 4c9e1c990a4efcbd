-- No record has a row without columns, and no list ends behind an entry and is empty.
use Rattle.std.proofs.Common.{List, [], ap, arith, length, map, refl, sym, ℕ, ◌+◌, ◌++◌, ◌∷◌, ◌≡◌}
use Rattle.std.proofs.Common.{◌≤◌}
use Rattle.sqlite_value.specs.Order.{Row, bytes, column}
use Rattle.urb_stable.specs.Entries.{Entry}
use Rattle.urb_stable.specs.declared.record.Record.TheVariants.{Cert, Pend, PendCert}
use Rattle.urb_sqlite.specs.RecordRows.{IsNoRecord, IsWithin, columns_in, payload_of, row_of}
use Rattle.urb_sqlite.specs.RecordRows.{rows_of}
use Rattle.urb_world.specs.internal.Examples.{pending}
use Rattle.urb_journal_examples.specs.internal.JournalValues.{holding}
use Rattle.urb_journal_examples.proofs.worked.record_rows.which_rows_are_bad.Goals as goal

-- a row without columns is no row of a record
no-columns : (row : Row) (r : Entry) → [] ≡ row → columns_in row ≡ row_of 1 r → ⊥
no-columns [] (Pend x m) none e = absurd (cc)
no-columns [] (PendCert x m) none e = absurd (cc)
no-columns [] (Cert x) none e = absurd (cc)
no-columns (v ∷ row) r none e = absurd (cc)

-- the number of bytes of a row's payload
abbrev bytes_in : Row → ℕ
bytes_in row = length (bytes (column row 6))

longer : (r : Entry) → length (payload_of r) ≤ 0
    → columns_in (row_of 1 (holding "a")) ≡ row_of 1 r → ⊥
longer (Pend x m) short e = omega (arith, short, ap bytes_in e)
longer (PendCert x m) short e = omega (arith, short, ap bytes_in e)
longer (Cert x) short e = omega (arith, ap bytes_in e)

none-split : {A : Type 0} (xs ys : List A) (x : A) → [] ≡ xs ++ x ∷ ys → ⊥
none-split [] ys x e = absurd (cc)
none-split (y ∷ xs) ys x e = absurd (cc)

-- behind one row without columns no row is the first bad one
behind : (good rest : List Row) (row : Row) (records : List Entry) → 2 ≡ 1 + length records
    → [] ∷ [] ∷ [] ≡ good ++ row ∷ rest → map columns_in good ≡ rows_of 1 records → ⊥
behind good rest row [] here parts spelled = omega (arith, here)
behind [] rest row (r ∷ records) here parts spelled = absurd (cc)
behind (g ∷ good) rest row (r ∷ records) here parts spelled =
    let none : [] ≡ g = cc in
    let same : columns_in g ≡ row_of 1 r = cc in
    no-columns g r none same

-- the first row isn't at the second place
elsewhere : (good rest : List Row) (row : Row) (records : List Entry) → 2 ≡ 1 + length records
    → [] ∷ [] ≡ good ++ row ∷ rest → map columns_in good ≡ rows_of 1 records → ⊥
elsewhere good rest row [] here parts spelled = omega (arith, here)
elsewhere [] rest row (r ∷ records) here parts spelled = absurd (cc)
elsewhere (g ∷ good) rest row (r ∷ records) here parts spelled =
    let more : [] ≡ good ++ row ∷ rest = cc in none-split good rest row more

within : IsWithin 0 (pending 1 1)
within = record {
  entry = (
    record { sender = (omega arith, omega arith); seq = (omega arith, omega arith) },
    record {
      client = (omega arith, omega arith);
      number = (omega arith, omega arith);
      payload = omega arith;
    },
  );
  payload = omega arith;
}

-- the row of a record is no bad one
a-record : (good rest : List Row) (row : Row)
    → row_of 1 (pending 1 1) ∷ [] ≡ good ++ row ∷ rest → IsNoRecord 0 1 row → ⊥
a-record [] rest row parts bad =
    let same : row_of 1 (pending 1 1) ≡ row = cc in
    bad (pending 1 1) within (omega arith) (ap columns_in (sym same))
a-record (g ∷ good) rest row parts bad =
    let more : [] ≡ good ++ row ∷ rest = cc in none-split good rest row more

pub returns-clause-one_without_columns : goal.returns-clause-one_without_columns
returns-clause-one_without_columns c r short low same = no-columns [] r refl same

pub returns-clause-one_of_a_longer_payload : goal.returns-clause-one_of_a_longer_payload
returns-clause-one_of_a_longer_payload c r short low same = longer r short.payload same

pub returns-clause-none_of_no_rows : goal.returns-clause-none_of_no_rows
returns-clause-none_of_no_rows c h = none-split h.good h.rest h.row h.parts

pub returns-clause-none_behind_a_bad_one : goal.returns-clause-none_behind_a_bad_one
returns-clause-none_behind_a_bad_one c h =
    behind h.good h.rest h.row h.records h.here h.parts h.before.spelled

pub returns-clause-not_at_another_place : goal.returns-clause-not_at_another_place
returns-clause-not_at_another_place c h =
    elsewhere h.good h.rest h.row h.records h.here h.parts h.before.spelled

pub returns-clause-none_of_a_record : goal.returns-clause-none_of_a_record
returns-clause-none_of_a_record c h = a-record h.good h.rest h.row h.parts h.bad
