-- Stores that are asked in parallel for their records, and the group that is opened from these.
use Rattle.std.specs.Prelude.{Err, List, Ok, Result, Vec, [], ◌∷◌, ◌≡◌, ◌⊎◌}
use Rattle.urb_names.specs.LabelsAndContents.{Limits}
use Rattle.urb_names.specs.declared.refusal.Refusal.{Refusal}
use Rattle.urb_names.specs.declared.refusal.Refusal.TheVariants as refusal
use Rattle.urb_stable.specs.Entries.{Entry}
use Rattle.urb_stable.specs.StableStorage.{list_in, refusal_of}
use Rattle.urb_stable.specs.declared.stable.Stable.{Ghosts}
use Rattle.urb_stable.specs.declared.stable.StoreFault.{StoreFault}
use Rattle.urb_stable.specs.RetrievedRecords.{Gives}
use Rattle.urb_group.specs.StoreOpenings.{OpensGiven}
use Rattle.urb_group.specs.GroupViews.{GroupView}
use Rattle.urb_folder.specs.ParallelOutcomes.{FailsFirst}

module _ {S A : Type 0} (g : Ghosts S A) where
  -- each store was asked and gave this answer, independently of the others
  abbrev pub AllAnswer : List S → List (Result (Vec Entry A) StoreFault) → List S → Type 0
  AllAnswer [] [] [] = Unit {0}
  AllAnswer (before ∷ stores) (answer ∷ answers) (after ∷ asked) =
      Gives g before (list_in answer) after × AllAnswer stores answers asked
  AllAnswer stores answers asked = ⊥

  -- Each store was asked. The refusal says the first fault in the order of the stores, or that
  -- memory for the lists was refused.
  pub record AnswerRefused (stores : List S) (why : Refusal) (asked : List S) : Type 0 where
    pub answers : List (Result (Vec Entry A) StoreFault)
    pub answered : AllAnswer stores answers asked
    pub told : ((fault : StoreFault) × FailsFirst answers fault × (why ≡ refusal_of fault))
        ⊎ (why ≡ refusal.NoMemory)

  -- The stores did not give all their lists. The refusal says the first fault, or that memory was
  -- refused, perhaps before any store was asked.
  abbrev pub AreRefusedTogether : List S → Refusal → List S → Type 0
  AreRefusedTogether stores why asked =
      AnswerRefused stores why asked ⊎ ((asked ≡ stores) × (why ≡ refusal.NoMemory))

  -- A group is opened from what the stores give. Or it is not, because of a store, or because of
  -- the lists that the stores gave.
  abbrev pub OpensTogether : Limits → List S → Result GroupView Refusal → List S → Type 0
  OpensTogether size stores (Ok group) asked = OpensGiven g size stores asked (Ok group)
  OpensTogether size stores (Err why) asked =
      AreRefusedTogether stores why asked ⊎ OpensGiven g size stores asked (Err why)
