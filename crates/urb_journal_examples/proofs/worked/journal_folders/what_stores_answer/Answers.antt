-- As many stores come back as were asked, and no fault is reported as busy.
use Rattle.std.proofs.Common.{List, Result, Vec, [], inl, inr, ◌∷◌, ◌≡◌}
use Rattle.urb_names.specs.declared.refusal.Refusal.TheVariants as refusal
use Rattle.urb_stable.specs.Entries.{Entry}
use Rattle.urb_stable.specs.MemoryStores.{empty_memory}
use Rattle.urb_stable.specs.StableStorage.{refusal_of}
use Rattle.urb_stable.specs.declared.stable.StoreFault.{StoreFault}
use Rattle.urb_stable.specs.declared.stable.StoreFault.TheVariants.{BadRow, Device, NoMemory, Place}
use Rattle.urb_world.specs.MemoryStores.{in_memory}
use Rattle.urb_folder.specs.AskedStores.{AllAnswer}
use Rattle.urb_journal_examples.proofs.worked.journal_folders.what_stores_answer.Goals as goal

lost : (answers : List (Result (Vec Entry (Unit {0})) StoreFault))
    → AllAnswer (in_memory (Unit {0})) (empty_memory ∷ []) answers [] → ⊥
lost [] answered = absurd answered
lost (a ∷ answers) answered = absurd answered

not-busy : (fault : StoreFault) → refusal.Busy ≡ refusal_of fault → ⊥
not-busy NoMemory e = absurd (cc)
not-busy Device e = absurd (cc)
not-busy (Place next) e = absurd (cc)
not-busy (BadRow place) e = absurd (cc)

pub returns-clause-no_refusal_that_takes_a_store : goal.returns-clause-no_refusal_that_takes_a_store
returns-clause-no_refusal_that_takes_a_store c h = lost h.answers h.answered

pub returns-clause-no_refusal_as_busy : goal.returns-clause-no_refusal_as_busy
returns-clause-no_refusal_as_busy c h = elim h.told [
  | inl failed ↦ not-busy failed.0 failed.2
  | inr memory ↦ absurd (cc)
]
