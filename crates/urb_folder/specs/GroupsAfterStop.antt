-- A group is opened over stores that are asked in parallel: how it goes on from the world before the
-- stop.
use Rattle.std.specs.Prelude.{Err, List, Ok, Result, ◌≡◌, ◌⊎◌}
use Rattle.std.specs.List.{All}
use Rattle.urb_names.specs.LabelsAndContents.{Limits}
use Rattle.urb_names.specs.declared.refusal.Refusal.{Refusal}
use Rattle.urb_names.specs.declared.refusal.Refusal.TheVariants as refusal
use Rattle.urb_stable.specs.declared.stable.Stable.{Ghosts}
use Rattle.urb_group.specs.GroupStores.{Clustered}
use Rattle.urb_group.specs.StoreOpenings.{ContinuesFrom, HasStopped}
use Rattle.urb_group.specs.GroupViews.{GroupView}
use Rattle.urb_world.specs.StartLimits.{MayStartWith}
use Rattle.urb_group.specs.StoreContents.{IsKnown}
use Rattle.urb_world.specs.World.{World}

-- a group with the stores of its nodes, in order of node
abbrev pub beside_stores : {S : Type 0} → GroupView → List S → Clustered S
beside_stores group stores = record { group = group; stores = stores }

module _ {S A : Type 0} (g : Ghosts S A) where
  -- Each store is honest now. Or each store was honest, or shut by a failure, and its storage has
  -- returned what was written.
  abbrev pub AreIntact : List S → List S → Type 0
  AreIntact passed asked = All g.is_honest asked ⊎ (All (IsKnown g) passed × All g.is_clean asked)

  -- This is `Continues` of `urb_group`, for stores asked in parallel. Over intact stores a group
  -- that is opened goes on from the world before the stop. It is opened if the group may start with
  -- these limits, unless memory is refused or a device fails. This holds also if that failure, or
  -- an earlier one, has shut a store. After a refusal the stores still hold what the stop may have
  -- left.
  abbrev pub ContinuesTogether :
      GroupView → World → Limits → List S → Result GroupView Refusal → List S → Type 0
  ContinuesTogether old w size passed (Ok group) asked =
      AreIntact passed asked → ContinuesFrom g w passed group
  ContinuesTogether old w size passed (Err why) asked =
      HasStopped g old w size asked
      × (MayStartWith size w → AreIntact passed asked
      → (why ≡ refusal.NoMemory) ⊎ (why ≡ refusal.Device))
