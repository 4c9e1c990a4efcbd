-- The outcome of asking all stores of a cluster for their records.
use Rattle.std.specs.Prelude.{Err, List, Ok, Result, Vec, map}
use Rattle.urb_names.specs.declared.refusal.Refusal.{Refusal}
use Rattle.urb_stable.specs.Entries.{Entry}
use Rattle.urb_stable.specs.declared.stable.Stable.{Ghosts}
use Rattle.urb_group.specs.StoreOpenings.{AllGive, AreRefused}

module _ {S A : Type 0} (g : Ghosts S A) where
  -- all stores give their images; or some are refused
  abbrev pub RetrievesAll : List S → Result (Vec (Vec Entry A) A) Refusal → List S → Type 0
  RetrievesAll stores (Ok images) asked =
      AllGive g stores (map (λ image. image.items) images.items) asked
  RetrievesAll stores (Err why) asked = AreRefused g stores why asked
