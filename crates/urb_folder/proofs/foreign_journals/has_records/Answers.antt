use Rattle.urb_folder.proofs.Common.{Bool, Entry, Image, IsFoundIn, List, length, nat_lt, refl}
use Rattle.urb_folder.proofs.Common.{subst, ℕ, ◌≡◌}
use Rattle.sqlite_trees.specs.View.{doubt}
use Rattle.sqlite_pool.specs.Pool.{state}
use Rattle.urb_folder.specs.internal.ForeignJournals.{TellsRecords}
use Rattle.urb_folder.proofs.RecordCounts.{some}
use Rattle.urb_folder.proofs.foreign_journals.has_records.Goals as goal

-- what an opening finds in files says whether there are records, if the answer does so for honest
-- storage
tells-what-is-found : (image : Image) (clean honest : Type 0) (records : List Entry)
    → IsFoundIn image clean honest records → clean → (log db : List ℕ) (answer : Bool)
    → image.log ≡ log → image.db ≡ db → (honest → answer ≡ nat_lt 0 (length records))
    → TellsRecords log db answer
tells-what-is-found image clean honest records found is_clean log db answer same_log same_db tells = (
  records,
  subst (λ (d : List ℕ). IsFoundIn (record { log = log; db = d }) (Unit {0})
      (answer ≡ nat_lt 0 (length records)) records) same_db
      (subst (λ (l : List ℕ). IsFoundIn (record { log = l; db = image.db }) (Unit {0})
      (answer ≡ nat_lt 0 (length records)) records) same_log
      (record {
        stood = λ _ trees holds journal. let it = found.stood is_clean trees holds journal in
            (tells it.0, it.1);
        fresh = λ _ none. let it = found.fresh is_clean none in (tells it.0, it.1);
        unmade = λ _ none. let it = found.unmade is_clean none in (tells it.0, it.1);
        empty = λ _ trees holds bare. let it = found.empty is_clean trees holds bare in
            (tells it.0, it.1);
        adopted = λ _ trees holds base. let it = found.adopted is_clean trees holds base in
            (tells it.0, it.1);
      })),
)

pub returns-clause-tells : goal.returns-clause-tells
unfolding doubt state
returns-clause-tells c =
    tells-what-is-found _ _ _ _ c.in_ok-journal.ensures.found refl _ _ _
    c.in_ok-copy_to_memory.ensures.bytes c.in_ok-copy_to_memory-2.ensures.bytes
    (λ honest. some _ _ (c.next.ensures.counted honest))
