-- The last loans of all workers: when each gave the House back.
use Rattle.std.specs.Prelude.{IfSome, List, None, Option, slice_index_or, suc, ℕ, ◌≡◌, Some}
use Rattle.urb_world.specs.Step.{Event}
use Rattle.urb_turn.specs.LastLoans.{RestsSince}
use Rattle.urb_turn.specs.NodeStores.{HasRested}
use Rattle.urb_turn.specs.Loans.{LoanView}

-- the end of the last loan of each node's worker, if it is known
abbrev pub LoanEnds : Type 0
LoanEnds = List (Option (List Event))

-- each node has rested since its worker gave the House back
abbrev pub AllRest : LoanEnds → List Event → Type 0
AllRest ends past =
    (i : ℕ) → IfSome (slice_index_or ends i None) (λ end. HasRested (suc i) end past)

-- A loan to the worker of node n. Until it began, the node had rested since the worker's last loan,
-- and the new end is the end of this loan. Or the new end is not known.
abbrev pub IsNextLoan : ℕ → Option (List Event) → List Event → List Event → Option (List Event)
    → Type 0
IsNextLoan n last lent back new = IfSome new (λ end. (end ≡ back) × RestsSince n last lent)

-- the moment when a loan ended, if it is known
abbrev pub back_of : Option LoanView → Option (List Event)
back_of (Some loan) = Some loan.back
back_of None = None
