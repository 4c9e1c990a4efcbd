-- How a run ends if its group was opened over stores that a stop had left.
use Rattle.std.specs.Prelude.{Bool, Err, List, Ok, Result, ℕ, ◌≡◌, ◌⊎◌}
use Rattle.std.specs.List.{All}
use Rattle.urb_names.specs.LabelsAndContents.{Limits}
use Rattle.urb_names.specs.declared.refusal.Refusal.{Refusal}
use Rattle.urb_names.specs.declared.refusal.Refusal.TheVariants as refusal
use Rattle.urb_stable.specs.declared.stable.Stable.{Ghosts}
use Rattle.urb_group.specs.StoreContents.{IsKnown}
use Rattle.urb_group.specs.StoreOpenings.{ContinuesFrom, HasStopped}
use Rattle.urb_group.specs.GroupViews.{GroupView, IsSound}
use Rattle.urb_world.specs.ProcessStops.{GoesOnUnder}
use Rattle.urb_world.specs.StartLimits.{MayStartWith}
use Rattle.urb_world.specs.World.{World, image_of, opened}
use Rattle.urb_turn.specs.NodeStores.{HoldNoneAhead}
use Rattle.urb_daemon.specs.declared.serve_fault.ServeFault.{ServeFault}
use Rattle.urb_daemon.specs.declared.serve_fault.ServeFault.TheVariants.{Unopened}
use Rattle.urb_folder.specs.GroupsAfterStop.{AreIntact, ContinuesTogether}
use Rattle.urb_folder.specs.AskedStores.{OpensTogether}
use Rattle.urb_daemon.specs.Lives.{OpensAfter}
use Rattle.urb_daemon.specs.Runs.{EndsAs, HaveServed, StopsIfEnded}

module _ {S A : Type 0} (g : Ghosts S A) where
  -- The group could not be opened over what a stop had left, and the run ends with that refusal.
  -- The stores still hold what the stop had left.
  pub record EndsStopped
      (old : GroupView) (w : World) (size : Limits) (passed : List S) (end : Result ℕ ServeFault)
      (lasts : List S)
      : Type 0 where
    pub why : Refusal
    pub stays : ContinuesTogether g old w size passed (Err why) lasts
    pub ends : end ≡ Err (Unopened why)

  -- The group was opened, and over intact stores it goes on from the world before the stop. The
  -- stores served it until the run ended.
  pub record EndsContinued
      (w : World) (size : Limits) (passed : List S) (told : Bool) (end : Result ℕ ServeFault)
      (lasts : List S)
      : Type 0 where
    pub group : GroupView
    pub asked : List S
    pub opens : OpensTogether g size passed (Ok group) asked
    pub sound : IsSound group
    pub goes_on : AreIntact g passed asked → ContinuesFrom g w passed group
    pub served : HaveServed g group asked lasts
    pub leaves : All (IsKnown g) passed → HoldNoneAhead g passed
        → StopsIfEnded g end size group (opened size (image_of opens.images)) lasts
    pub ends : EndsAs told end

  -- how a run over what a stop of this world had left ends, depending on whether its opening was
  -- reported
  abbrev pub EndsAfterStop :
      GroupView → World → Limits → List S → Bool → Result ℕ ServeFault → List S → Type 0
  EndsAfterStop old w size passed told end lasts =
      EndsStopped old w size passed end lasts ⊎ EndsContinued w size passed told end lasts

  -- ---- over files that a stop had left

  -- The group could not be opened over what a stop had left. The stores still hold it. If the group
  -- may start with these limits, and the disks returned what was written, then memory was refused or
  -- a device failed.
  pub record EndsRefused
      (old : GroupView) (w : World) (size : Limits) (end : Result ℕ ServeFault) (lasts : List S)
      : Type 0 where
    pub why : Refusal
    pub stays : HasStopped g old w size lasts
    pub cause : MayStartWith size w → All g.is_clean lasts
        → (why ≡ refusal.NoMemory) ⊎ (why ≡ refusal.Device)
    pub ends : end ≡ Err (Unopened why)

  -- The group was opened from what the stores gave. If the disks returned what was written, that is
  -- what the stop may have left, and the group goes on from the world before the stop. The stores
  -- served it until the run ended, and hold what the next start takes.
  pub record EndsResumed
      (w : World) (size : Limits) (passed : List S) (told : Bool) (end : Result ℕ ServeFault)
      (lasts : List S)
      : Type 0 where
    pub group : GroupView
    pub asked : List S
    pub opens : OpensTogether g size passed (Ok group) asked
    pub after : All g.is_clean asked → OpensAfter w size opens.images group
    pub goes_on : All g.is_clean asked → GoesOnUnder size w (image_of opens.images)
    pub served : HaveServed g group asked lasts
    pub leaves : StopsIfEnded g end size group (opened size (image_of opens.images)) lasts
    pub ends : EndsAs told end

  -- how a run over files ends in which a stop had left what it may leave of this world
  abbrev pub Resumes :
      GroupView → World → Limits → List S → Bool → Result ℕ ServeFault → List S → Type 0
  Resumes old w size passed told end lasts =
      EndsRefused old w size end lasts ⊎ EndsResumed w size passed told end lasts
