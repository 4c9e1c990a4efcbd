-- What contracts see of the value under a Hub's lock.
use Rattle.std.specs.Prelude.{List, None, Some, slice_get, slice_index_or, suc, ℕ, ◌≡◌}
use Rattle.urb_stable.specs.declared.stable.Stable.{Ghosts}
use Rattle.urb_world.specs.Step.{Event}
use Rattle.urb_world.specs.World.{World}
use Rattle.urb_show.specs.Houses.{HouseView}
use Rattle.urb_turn.specs.NodeStores.{LeavesAfter}
use Rattle.urb_turn.specs.internal.LoanEnds.{LoanEnds}

-- the House, and the end of each worker's last loan; the ledger's book is not seen
pub record CountedView : Type 0 where
  pub house : HouseView
  pub last : LoanEnds

-- The end of each worker's last loan is known. A stop leaves in its store what it may leave of the
-- node after all events until then.
abbrev pub AreLeftSince : {S A : Type 0} → Ghosts S A → World → LoanEnds → List S → Type 0
AreLeftSince {S} g start ends stores =
    (i : ℕ) (store : S) → slice_get stores i ≡ Some store
    → (end : List Event) × (slice_index_or ends i None ≡ Some end)
    × LeavesAfter g start end (suc i) store
