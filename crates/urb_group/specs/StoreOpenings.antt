-- A cluster that is opened over stores with records, and how it goes on from the earlier cluster.
use Rattle.std.specs.Prelude.{Err, List, Ok, Result, Vec, [], length, ℕ, ◌++◌, ◌∷◌, ◌≡◌, ◌≤◌, ◌⊎◌}
use Rattle.std.specs.List.{All}
use Rattle.urb_names.specs.LabelsAndContents.{Limits}
use Rattle.urb_names.specs.declared.refusal.Refusal.{Refusal}
use Rattle.urb_names.specs.declared.refusal.Refusal.TheVariants as refusal
use Rattle.urb_stable.specs.Entries.{Entry}
use Rattle.urb_stable.specs.StableStorage.{refusal_of}
use Rattle.urb_stable.specs.declared.stable.Stable.{Ghosts}
use Rattle.urb_stable.specs.declared.stable.StoreFault.{StoreFault}
use Rattle.urb_node.specs.Part.{Ready}
use Rattle.urb_stable.specs.RetrievedRecords.{Gives}
use Rattle.urb_group.specs.GroupCalls.{Opens}
use Rattle.urb_group.specs.GroupStores.{Clustered}
use Rattle.urb_group.specs.GroupViews.{GroupView, IsSound, Shows, view_of}
use Rattle.urb_group.specs.StoreContents.{AllHold, AreChosen, IsKnown}
use Rattle.urb_world.specs.StartLimits.{MayStartWith}
use Rattle.urb_world.specs.StoresAhead.{IsAsStored}
use Rattle.urb_world.specs.ProcessStops.{GoesOnUnder}
use Rattle.urb_world.specs.World.{World, image_of, opened}

-- the stores of the opened cluster, or the stores that are returned
abbrev pub stores_in : {S A : Type 0} → Result (Clustered S) (Vec S A × Refusal) → List S
stores_in (Ok cluster) = cluster.stores
stores_in (Err e) = e.0.items

module _ {S A : Type 0} (g : Ghosts S A) where
  -- each store was asked and gave its list, one after the other
  abbrev pub AllGive : List S → List (List Entry) → List S → Type 0
  AllGive [] [] [] = Unit {0}
  AllGive (before ∷ stores) (image ∷ images) (after ∷ asked) =
      Gives g before (Ok image) after × AllGive stores images asked
  AllGive stores images asked = ⊥

  -- The first stores gave their lists. The next one answered with this fault, and the stores after
  -- it were not asked.
  pub record FirstFails (stores : List S) (fault : StoreFault) (asked : List S) : Type 0 where
    pub earlier : List S
    pub images : List (List Entry)
    pub gave : List S
    pub given : AllGive earlier images gave
    pub before : S
    pub after : S
    pub failed : Gives g before (Err fault) after
    pub later : List S
    pub were : stores ≡ earlier ++ before ∷ later
    pub are : asked ≡ gave ++ after ∷ later

  -- The stores did not give all their lists. The refusal says the first fault; or memory was
  -- refused before any store was asked.
  abbrev pub AreRefused : List S → Refusal → List S → Type 0
  AreRefused stores why asked =
      ((fault : StoreFault) × FirstFails stores fault asked × (why ≡ refusal_of fault))
      ⊎ ((asked ≡ stores) × (why ≡ refusal.NoMemory))

  -- all stores gave their lists, and these were opened as a group
  pub record OpensGiven (size : Limits) (stores asked : List S)
      (result : Result GroupView Refusal) : Type 0 where
    pub images : List (List Entry)
    pub given : AllGive stores images asked
    pub opens : Opens size images result

  -- A group is opened from what the stores give. Or it is not, because of a store, or because of
  -- the lists that the stores gave.
  abbrev pub OpensFrom : Limits → List S → Result GroupView Refusal → List S → Type 0
  OpensFrom size stores (Ok group) asked = OpensGiven size stores asked (Ok group)
  OpensFrom size stores (Err why) asked =
      AreRefused stores why asked ⊎ OpensGiven size stores asked (Err why)

  -- a cluster of that group with its stores; or all stores are returned in order
  abbrev pub OpensStores : Limits → List S → Result (Clustered S) (Vec S A × Refusal) → Type 0
  OpensStores size stores (Ok cluster) = OpensFrom size stores (Ok cluster.group) cluster.stores
  OpensStores size stores (Err e) = OpensFrom size stores (Err e.1) e.0.items

  -- A process stopped whose group showed a world, and this is that world as its stores have it. It
  -- had at most as many nodes as these limits. The stores that are passed now may be any that hold
  -- what a stop may leave of its nodes. Each holds its node's records, or these with the held or the
  -- doubtful record. So the store of a new node holds none.
  pub record HasStopped (old : GroupView) (w : World) (limits : Limits)
      (passed : List S) : Type 0 where
    pub sound : IsSound old
    pub counted : length old.nodes ≡ old.size.n
    pub nodes : old.size.n ≤ limits.n
    pub shown : World
    pub shows : Shows old shown
    pub stands : IsAsStored shown w
    pub holds : AllHold g w passed

  -- The new cluster goes on from this world. Each of these lists is one that its store may have
  -- held, and the lists go on from this world. The new group shows what is opened from them, and
  -- all its nodes are ready.
  pub record ContinuesFrom (w : World) (passed : List S) (new : GroupView) : Type 0 where
    pub images : List (List Entry)
    pub chosen : AreChosen g passed images
    pub goes_on : GoesOnUnder new.size w (image_of images)
    pub opens : Shows new (opened new.size (image_of images))
    pub ready : (p : ℕ) → (view_of new p).state ≡ Ready

  -- Over honest stores a cluster that is opened goes on. It is opened if the group may start with
  -- these limits, unless memory is refused or a device fails. This holds also if that failure, or
  -- an earlier one, has shut a store. After a refusal the stores still hold what the stop may have
  -- left, so the opening may be tried again.
  abbrev pub Continues : GroupView → World → Limits → List S
      → Result (Clustered S) (Vec S A × Refusal) → Type 0
  Continues old w limits passed (Ok new) =
      All g.is_honest new.stores → ContinuesFrom w passed new.group
  Continues old w limits passed (Err e) =
      HasStopped old w limits e.0.items
      × (MayStartWith limits w
      → All g.is_honest e.0.items ⊎ (All (IsKnown g) passed × All g.is_clean e.0.items)
      → (e.1 ≡ refusal.NoMemory) ⊎ (e.1 ≡ refusal.Device))
