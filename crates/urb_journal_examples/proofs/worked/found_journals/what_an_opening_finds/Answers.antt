-- What is found is what the tables hold, since the files list something.
use Rattle.std.proofs.Common.{refl}
use Rattle.urb_journal_examples.proofs.worked.found_journals.what_an_opening_finds.Goals as goal

pub returns-clause-no_record_in_empty_files : goal.returns-clause-no_record_in_empty_files
returns-clause-no_record_in_empty_files c h = let none = (h.fresh tt refl).1 in absurd (cc)

pub returns-clause-no_record_after_half_a_start : goal.returns-clause-no_record_after_half_a_start
returns-clause-no_record_after_half_a_start c h = let none = (h.unmade tt tt).1 in absurd (cc)

pub returns-clause-the_records_of_the_tables : goal.returns-clause-the_records_of_the_tables
returns-clause-the_records_of_the_tables c image records stood adopted listed some = record {
  stood = λ clean db holds journal. (tt, stood db holds journal);
  fresh = λ clean empty. absurd (some empty);
  unmade = λ clean no. absurd no;
  empty = λ clean db holds bare. absurd (listed db holds bare);
  adopted = λ clean db holds base. (tt, adopted db holds base);
}
