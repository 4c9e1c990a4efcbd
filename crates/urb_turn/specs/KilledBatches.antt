-- The stores of a group whose process is killed at any moment: while a store is idle, works in a
-- turn, or is asked to hold a batch of records ahead.
use Rattle.std.specs.Prelude.{List, None, Some, slice_get, suc, true, ℕ, ◌++◌, ◌≡◌, ◌⊎◌}
use Rattle.urb_stable.specs.Entries.{Entry}
use Rattle.urb_stable.specs.StableStorage.{IsContents}
use Rattle.urb_stable.specs.StoredTogether.{IsContentsOrAll}
use Rattle.urb_stable.specs.declared.stable.Stable.{Ghosts}
use Rattle.urb_group.specs.GroupViews.{GroupView}
use Rattle.urb_world.specs.Step.{Event}
use Rattle.urb_world.specs.World.{World, stored}
use Rattle.urb_show.specs.Pasts.{IsLedTo}
use Rattle.urb_turn.specs.Jobs.{runs_at}
use Rattle.urb_turn.specs.KeptTails.{AsksToHold}
use Rattle.urb_turn.specs.NodeStores.{HasRested, IsStoreAfter}
use Rattle.urb_turn.specs.Views.{FinishedView}
use Rattle.urb_turn.specs.WholeTurns.{IsTurnAt}
use Rattle.urb_turn.specs.declared.job.Job.{Job}

module _ {S A : Type 0} (g : Ghosts S A) where
  -- A stop leaves in the store the records of node n, followed by the whole batch. Or it leaves
  -- these, or the node's records alone.
  abbrev pub LeavesAllOrNone : World → ℕ → List Entry → S → Type 0
  LeavesAllOrNone w n batch store =
      g.leaves_only store (IsContents (stored w n ++ batch) None)
      ⊎ g.leaves_only store (IsContentsOrAll batch (stored w n) None)

module _ {S A : Type 0} (g : Ghosts S A) (opened : GroupView) (start : World) where
  -- A store of node n is asked to hold this batch of records ahead, and is so after it. A history
  -- led from the opened group to one in which the batch may follow the node's records, and the store
  -- matched the node then. The node has rested since, until this moment.
  pub record IsHoldingAt (past : List Event) (n : ℕ) (batch : List Entry) (before after : S)
      : Type 0 where
    pub earlier : List Event
    pub group : GroupView
    pub leads : IsLedTo opened earlier group
    pub asks : AsksToHold g group n batch before after
    pub matched : IsStoreAfter g start earlier n before
    pub rests : HasRested n earlier past

-- The process is killed at this moment of the history. The store of node n is idle: it matched its
-- node at an earlier moment. Or it works in a turn, and matched its node when that began. Or it is
-- asked to hold records ahead. Since then the node has rested.
pub data IsKilledAt {S A : Type 0} (g : Ghosts S A) (opened : GroupView) (start : World)
    (past : List Event) (n : ℕ) (store : S) : Type 0 where
  Idle : (last : List Event) → IsStoreAfter g start last n store → HasRested n last past
      → IsKilledAt g opened start past n store
  Working : (job : Job) (before : S) (came : FinishedView)
      (at : IsTurnAt g opened n job before store came) → runs_at n job ≡ true
      → IsStoreAfter g start at.turn.lent.past n before
      → HasRested n at.turn.given_back.past past → IsKilledAt g opened start past n store
  Holding : (batch : List Entry) (before : S)
      → IsHoldingAt g opened start past n batch before store
      → IsKilledAt g opened start past n store

-- the same for each of these stores, which belong to nodes 1, 2, 3, ..
abbrev pub AreKilledAt : {S A : Type 0} → Ghosts S A → GroupView → World → List Event → List S
    → Type 0
AreKilledAt {S} g opened start past stores =
    (i : ℕ) (store : S) → slice_get stores i ≡ Some store
    → IsKilledAt g opened start past (suc i) store
