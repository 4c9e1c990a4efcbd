-- Batches of jobs for other nodes.
use Rattle.std.proofs.Common.{List, None, Option, [], ap, arith, length, refl, subst, ◌++◌, ◌∙◌, ◌∷◌}
use Rattle.std.proofs.Common.{◌≡◌}
use Rattle.std.proofs.lemmas.List.{append-nil}
use Rattle.urb_names.specs.declared.refusal.NoMemory.{NoMemory}
use Rattle.urb_show.specs.internal.ReaderExamples.{new_four}
use Rattle.urb_stable.specs.MemoryStores.{Memory, empty_memory}
use Rattle.urb_turn.specs.KeptTails.{Prepares}
use Rattle.urb_turn.specs.Views.{FinishedView}
use Rattle.urb_turn.specs.WholeTurns.{misrouted}
use Rattle.urb_turn.specs.declared.job.Job.TheVariants as job
use Rattle.urb_turn.specs.internal.TurnExamples.{holding, memory}
use Rattle.urb_world.specs.Step.{run}
use Rattle.urb_worker.specs.Acts.{Act, LetsOut, RanShort, Sent}
use Rattle.urb_worker.specs.ServedStores.{WorksAll, notes_of}
use Rattle.urb_worker.proofs.worked.ticket_batches.batches_without_calls.Goals as goal

pub returns-clause-of_two_jobs : goal.returns-clause-of_two_jobs
unfolding run
returns-clause-of_two_jobs c = record {
  refused = None;
  ready = empty_memory;
  prepares = record {
    past = [];
    group = new_four;
    leads = λ w shows. shows;
    holds = record {
      records = [];
      foreseen = (refl, refl);
      few = λ few. refl;
      enough = λ enough. absurd (omega (arith, enough));
    };
  };
  works = (
    empty_memory,
    [],
    record { done = misrouted (job.Tick 2); does = (refl, refl); lets_out = refl },
    (
      empty_memory,
      [],
      record { done = misrouted (job.Tick 3); does = (refl, refl); lets_out = refl },
      (refl, refl),
    ),
  );
}

-- if no call waits, the store stays, and no memory was refused
stays : (refused : Option NoMemory) (before ready : Memory)
    → (h : Prepares memory new_four 1 [] refused before ready) → ready ≡ before
stays refused before ready h =
    h.holds.few (let none : length h.holds.records ≡ 0 = ap length h.holds.foreseen.0 in
    omega (arith, none))

none-refused : (refused : Option NoMemory) (before ready : Memory)
    → (h : Prepares memory new_four 1 [] refused before ready) → refused ≡ None
none-refused refused before ready h = h.holds.foreseen.1

-- a job for another node leaves the store
store-stays : (before after : Memory) (old new : List Act)
    → WorksAll memory new_four 1 (job.Tick 2 ∷ []) before after old new → after ≡ before
store-stays before after old new works = works.3.0 ∙ works.2.does.0

-- and lets nothing out
acts-stay : (before after : Memory) (old new : List Act)
    → WorksAll memory new_four 1 (job.Tick 2 ∷ []) before after old new → new ≡ old
acts-stay before after old new works =
    works.3.1
    ∙ subst (λ (done : FinishedView). LetsOut old done works.1) works.2.does.1 works.2.lets_out
    ∙ append-nil old

-- no memory was refused
none-noted : (refused : Option NoMemory) → refused ≡ None → [] ++ notes_of refused ≡ []
none-noted refused none = rw none refl

pub returns-clause-a_record_that_nobody_drafts : goal.returns-clause-a_record_that_nobody_drafts
returns-clause-a_record_that_nobody_drafts c h =
    let same : holding ≡ empty_memory =
    store-stays h.ready holding ([] ++ notes_of h.refused) [] h.works
    ∙ stays h.refused empty_memory h.ready h.prepares in
    let count : 1 ≡ 0 = ap (λ (store : Memory). length store.certain) same in
    absurd (omega (arith, count))

pub returns-clause-a_lack_that_nobody_had : goal.returns-clause-a_lack_that_nobody_had
returns-clause-a_lack_that_nobody_had c h =
    let none : RanShort ∷ [] ≡ [] =
    acts-stay h.ready empty_memory ([] ++ notes_of h.refused) (RanShort ∷ []) h.works
    ∙ none-noted h.refused (none-refused h.refused empty_memory h.ready h.prepares) in
    absurd (cc)

pub returns-clause-bytes_that_are_let_out : goal.returns-clause-bytes_that_are_let_out
returns-clause-bytes_that_are_let_out c h =
    let none : Sent 2 [] ∷ [] ≡ [] =
    acts-stay h.ready empty_memory ([] ++ notes_of h.refused) (Sent 2 [] ∷ []) h.works
    ∙ none-noted h.refused (none-refused h.refused empty_memory h.ready h.prepares) in
    absurd (cc)
