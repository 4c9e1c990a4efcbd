-- Words about lists, for the order of the stores; and a job that a worker may do.
use Rattle.std.specs.Prelude.{Err, List, Ok, Result, [], length, map, true, ℕ, ◌∷◌, ◌≡◌, ◌⊎◌}
use Rattle.urb_stable.specs.declared.stable.Stable.{Ghosts}
use Rattle.urb_group.specs.GroupViews.{GroupView, IsSound, Shows}
use Rattle.urb_world.specs.Step.{Event}
use Rattle.urb_world.specs.World.{World}
use Rattle.urb_worker.specs.Acts.{Act}
use Rattle.urb_show.specs.Pasts.{IsLedTo}
use Rattle.urb_turn.specs.Counting.{TallyView}
use Rattle.urb_turn.specs.LastLoans.{AllRestSince}
use Rattle.urb_turn.specs.NodeStores.{IsStoreAfter, IsStoreSince}
use Rattle.urb_worker.specs.ServedStores.{Works, needs_no_ticket}
use Rattle.urb_turn.specs.declared.job.Job.{Job}

-- the value of f for each element of a list
abbrev pub each : {X Y : Type 0} → List X → (X → Y) → List Y
each xs f = map f xs

-- the value of f for an Ok, or of g for an Err
abbrev pub in_either : {T E Y : Type 0} → Result T E → (T → Y) → (E → Y) → Y
in_either (Ok there) f g = f there
in_either (Err left) f g = g left

-- all elements are Ok
abbrev pub AllThere : {T E : Type 0} → List (Result T E) → Type 0
AllThere [] = Unit {0}
AllThere (Ok there ∷ more) = AllThere more
AllThere (Err left ∷ more) = ⊥

module _ {S A : Type 0} (g : Ghosts S A) (opened : GroupView) where
  -- If the store matched node n at the opening, it still matches the node after the worker's last
  -- loan, provided that the end of that is known.
  abbrev pub KeepsUp : ℕ → S → S → TallyView → Type 0
  KeepsUp n first last tally =
      (start : World) → Shows opened start → IsStoreAfter g start [] n first
      → IsStoreSince g start tally.last n last

  -- the same for each of these nodes, in their order
  abbrev pub AllKeepUp : List ℕ → List S → List S → List TallyView → Type 0
  AllKeepUp [] [] [] [] = Unit {0}
  AllKeepUp (n ∷ nodes) (first ∷ firsts) (last ∷ lasts) (tally ∷ tallies) =
      KeepsUp n first last tally × AllKeepUp nodes firsts lasts tallies
  AllKeepUp nodes firsts lasts tallies = ⊥

-- A house of n nodes was closed. Its history led from the opened group to the last one, and each
-- node has rested since its worker's last loan.
pub record ClosesAt (opened : GroupView) (n : ℕ) (tallies : List TallyView) : Type 0 where
  pub history : List Event
  pub group : GroupView
  pub sound : IsSound group
  pub nodes : length group.nodes ≡ n
  pub size : group.size.n ≡ n
  pub leads : IsLedTo opened history group
  pub rest : AllRestSince 1 tallies history

-- the worker of node n does a job of its own, or does nothing
abbrev pub MayWork : {S A : Type 0} → Ghosts S A → GroupView → ℕ → S → S → List Act → List Act
    → Type 0
MayWork g opened n before after old new =
    ((after ≡ before) × (new ≡ old))
    ⊎ ((job : Job) × (needs_no_ticket job ≡ true) × Works g opened n job before after old new)
