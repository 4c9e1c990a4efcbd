-- Without rows there are no records.
use Rattle.std.proofs.Common.{List, [], arith, refl, ℕ, ◌++◌, ◌∷◌, ◌≡◌, ◌≤◌}
use Rattle.urb_stable.specs.Entries.{Entry}
use Rattle.urb_sqlite.specs.RecordRows.{Spells, rows_of}
use Rattle.urb_world.specs.internal.Examples.{pending}
use Rattle.urb_journal_examples.proofs.worked.record_rows.what_a_database_stands_for.Goals as goal

no-rows : (place : ℕ) (first second : List Entry) → pending 1 1 ∷ [] ≡ first ++ second
    → [] ≡ rows_of 1 first → [] ≡ rows_of place second → ⊥
no-rows place [] [] whole one two = absurd (cc)
no-rows place [] (r ∷ rs) whole one two = absurd (cc)
no-rows place (r ∷ rs) second whole one two = absurd (cc)

nothing : (limit first : ℕ) → first ≤ 4294967295 → Spells limit first [] []
nothing limit first low = record {
  spelled = refl;
  limits = λ i r less. absurd (omega (arith, less));
  places = omega (arith, low);
}

pub returns-clause-no_record_without_rows : goal.returns-clause-no_record_without_rows
returns-clause-no_record_without_rows c h =
    no-rows _ h.first h.second h.whole h.in_first.spelled h.in_second.spelled

pub returns-clause-nothing_without_rows : goal.returns-clause-nothing_without_rows
returns-clause-nothing_without_rows c = record {
  first = [];
  second = [];
  whole = refl;
  in_first = nothing 1024 1 (omega arith);
  in_second = nothing 16384 1 (omega arith);
}
