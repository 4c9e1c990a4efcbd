-- Jobs that change nothing, and what they would have to change.
use Rattle.std.proofs.Common.{List, None, Option, Some, [], ap, ◌++◌, ◌∙◌, ◌∷◌, ◌≡◌}
use Rattle.urb_names.specs.declared.refusal.NoMemory.{NoMemory}
use Rattle.urb_stable.specs.MemoryStores.{Memory, empty_memory}
use Rattle.urb_turn.specs.internal.TurnExamples.{holding}
use Rattle.urb_world.specs.internal.Examples.{pending}
use Rattle.urb_worker.specs.Acts.{Lost, RanShort}
use Rattle.urb_worker.specs.ServedStores.{notes_of}
use Rattle.urb_life_examples.proofs.worked.worker_jobs.jobs_in_a_row.Goals as goal

some-none : {A : Type 0} (x : A) (xs : List A) → x ∷ xs ≡ [] → ⊥
some-none x xs e = cc

not-stored : holding ≡ empty_memory → ⊥
not-stored e = some-none (pending 1 1) [] (ap (λ (m : Memory). m.certain) e)

not-noted : (refused : Option NoMemory) → Lost 2 ∷ [] ≡ [] ++ notes_of refused → ⊥
not-noted None e = some-none (Lost 2) [] e
not-noted (Some why) e = let same : Lost 2 ∷ [] ≡ RanShort ∷ [] = e in absurd (cc)

pub returns-clause-no_job_that_stores : goal.returns-clause-no_job_that_stores
returns-clause-no_job_that_stores c h = not-stored h.0

pub returns-clause-no_job_that_notes : goal.returns-clause-no_job_that_notes
returns-clause-no_job_that_notes c h = some-none RanShort [] h.1

pub returns-clause-no_tick_of_another_that_stores : goal.returns-clause-no_tick_of_another_that_stores
returns-clause-no_tick_of_another_that_stores c h = not-stored (h.3.0 ∙ h.2.does.0)

pub returns-clause-no_batch_that_loses_packets : goal.returns-clause-no_batch_that_loses_packets
returns-clause-no_batch_that_loses_packets c h = not-noted h.refused h.works.1
