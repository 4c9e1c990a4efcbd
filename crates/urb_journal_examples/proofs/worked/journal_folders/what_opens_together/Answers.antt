-- No store comes back that wasn't asked.
use Rattle.std.proofs.Common.{Err, List, Result, Vec, [], inl, inr, ◌∷◌}
use Rattle.urb_names.specs.declared.refusal.Refusal.TheVariants as refusal
use Rattle.urb_stable.specs.Entries.{Entry}
use Rattle.urb_stable.specs.MemoryStores.{empty_memory}
use Rattle.urb_stable.specs.declared.stable.StoreFault.{StoreFault}
use Rattle.urb_group.specs.StoreOpenings.{AllGive}
use Rattle.urb_world.specs.MemoryStores.{in_memory}
use Rattle.urb_folder.specs.AskedStores.{AllAnswer, OpensTogether}
use Rattle.urb_world.specs.internal.Examples.{limits}
use Rattle.urb_journal_examples.proofs.worked.journal_folders.what_opens_together.Goals as goal

none-answers : (answers : List (Result (Vec Entry (Unit {0})) StoreFault))
    → AllAnswer (in_memory (Unit {0})) [] answers (empty_memory ∷ []) → ⊥
none-answers [] answered = absurd answered
none-answers (a ∷ answers) answered = absurd answered

none-gives : (images : List (List Entry))
    → AllGive (in_memory (Unit {0})) [] images (empty_memory ∷ []) → ⊥
none-gives [] given = absurd given
none-gives (image ∷ images) given = absurd given

not-more : OpensTogether (in_memory (Unit {0})) (limits 4 10) [] (Err refusal.Busy)
    (empty_memory ∷ []) → ⊥
not-more (inl (inl refused)) = none-answers refused.answers refused.answered
not-more (inl (inr (same, why))) = absurd (cc)
not-more (inr opened) = none-gives opened.images opened.given

pub returns-clause-not_with_a_store_more : goal.returns-clause-not_with_a_store_more
returns-clause-not_with_a_store_more c h = not-more h
