-- How a run of a group ends, and its stores after it.
use Rattle.std.specs.Prelude.{Bool, Err, List, Ok, Result, [], false, length, true, ℕ, ◌∷◌, ◌≡◌}
use Rattle.std.specs.Prelude.{◌⊎◌}
use Rattle.std.specs.List.{All}
use Rattle.urb_names.specs.LabelsAndContents.{Limits}
use Rattle.urb_names.specs.declared.refusal.Refusal.{Refusal}
use Rattle.urb_stable.specs.Entries.{Entry}
use Rattle.urb_stable.specs.declared.stable.Stable.{Ghosts}
use Rattle.urb_stable.specs.declared.stable.StoreFault.{StoreFault}
use Rattle.urb_stable.specs.RetrievedRecords.{Gives}
use Rattle.urb_group.specs.GroupViews.{GroupView}
use Rattle.urb_world.specs.RecoveryPlans.{after}
use Rattle.urb_world.specs.Step.{Event}
use Rattle.urb_group.specs.StoreContents.{IsKnown, WouldLeave}
use Rattle.urb_group.specs.StoreOpenings.{HasStopped}
use Rattle.urb_world.specs.World.{World, image_of, opened}
use Rattle.urb_show.specs.Pasts.{IsLedTo}
use Rattle.urb_turn.specs.NodeStores.{HaveTails, HoldNoneAhead}
use Rattle.urb_worker.specs.ServedStores.{AreServed, numbers_from}
use Rattle.urb_options.specs.declared.serve_options.ServeOptions.{ServeOptions}
use Rattle.urb_daemon.specs.declared.serve_fault.ServeFault.{ServeFault}
use Rattle.urb_daemon.specs.declared.serve_fault.ServeFault.TheVariants.{Network, NoMemory, Unopened}
use Rattle.urb_daemon.specs.declared.serve_fault.ServeFault.TheVariants.{Untold}
use Rattle.urb_folder.specs.AskedStores.{OpensTogether}

-- the limits of the group in these settings
abbrev pub limits_of : ServeOptions → Limits
limits_of serving = record { n = serving.nodes; cap = serving.cap }

-- How a run ends if its group was opened. It came to its end, and its opening was reported. Or the
-- opening could not be reported. Or sockets, memory or a thread were refused.
abbrev pub EndsAs : Bool → Result ℕ ServeFault → Type 0
EndsAs told (Ok events) = told ≡ true
EndsAs told (Err Untold) = told ≡ false
EndsAs told (Err (Unopened why)) = ⊥
EndsAs told (Err (Network why)) = Unit {0}
EndsAs told (Err NoMemory) = Unit {0}

module _ {S A : Type 0} (g : Ghosts S A) where
  -- a store was asked for its records, or was left as it was
  abbrev pub MayBeAsked : S → S → Type 0
  MayBeAsked before after =
      (after ≡ before) ⊎ ((answer : Result (List Entry) StoreFault) × Gives g before answer after)

  -- the same for each of these stores, in the same order
  abbrev pub MayAllBeAsked : List S → List S → Type 0
  MayAllBeAsked [] [] = Unit {0}
  MayAllBeAsked (before ∷ stores) (after ∷ asked) =
      MayBeAsked before after × MayAllBeAsked stores asked
  MayAllBeAsked stores asked = ⊥

  -- a group that opened with this view ran over these stores, which belong to its nodes in order
  abbrev pub HaveServed : GroupView → List S → List S → Type 0
  HaveServed group stores lasts =
      AreServed g group (numbers_from 1 (length stores)) stores lasts

  -- The stores are returned in their order. Each was asked for its records at most once. Then no
  -- group ran, or each served its own node's jobs in a group.
  pub record ComeBack (stores lasts : List S) : Type 0 where
    pub asked : List S
    pub first : MayAllBeAsked stores asked
    pub then : (lasts ≡ asked) ⊎ ((group : GroupView) × HaveServed group asked lasts)

  -- A run ended whose group showed this world when it was opened. Its history led to a last group.
  -- The stores hold what a stop leaves of the world after the history, and so do they after a stop
  -- of the machine. The next start, under these limits, goes on from there. What the stores hold
  -- ahead may follow.
  pub record StopsAfter (size : Limits) (group : GroupView) (start : World) (lasts : List S)
      : Type 0 where
    pub history : List Event
    pub later : GroupView
    pub leads : IsLedTo group history later
    pub stopped : HasStopped g later (after start history) size lasts
    pub left : WouldLeave g (after start history) lasts
    pub tails : HaveTails g (after start history) lasts

  -- the same, if the run came to its end
  abbrev pub StopsIfEnded : Result ℕ ServeFault → Limits → GroupView → World → List S → Type 0
  StopsIfEnded (Ok events) size group start lasts = StopsAfter size group start lasts
  StopsIfEnded (Err why) size group start lasts = Unit {0}

  -- the group could not be opened from these stores, and the run ends with that refusal
  pub record EndsUnopened (size : Limits) (stores : List S) (end : Result ℕ ServeFault)
      (lasts : List S) : Type 0 where
    pub why : Refusal
    pub opens : OpensTogether g size stores (Err why) lasts
    pub ends : end ≡ Err (Unopened why)

  -- The group was opened from the records that these stores gave, and they served it until the run
  -- ended. If each was honest or shut by a failure, and none held records ahead, they hold what a
  -- stop leaves of a world that follows the opened one.
  pub record EndsOpened (size : Limits) (stores : List S) (told : Bool) (end : Result ℕ ServeFault)
      (lasts : List S) : Type 0 where
    pub group : GroupView
    pub asked : List S
    pub opens : OpensTogether g size stores (Ok group) asked
    pub served : HaveServed group asked lasts
    pub leaves : All (IsKnown g) stores → HoldNoneAhead g stores
        → StopsIfEnded end size group (opened size (image_of opens.images)) lasts
    pub ends : EndsAs told end

  -- how a run over these stores ends, and the stores after it, depending on whether its opening was
  -- reported
  abbrev pub EndsFrom : Limits → List S → Bool → Result ℕ ServeFault → List S → Type 0
  EndsFrom size stores told end lasts =
      EndsUnopened size stores end lasts ⊎ EndsOpened size stores told end lasts
