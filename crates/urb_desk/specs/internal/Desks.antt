-- Which requests go to the worker, and which turn is one of a request.
use Rattle.std.specs.Prelude.{List, true, ℕ, ◌≡◌}
use Rattle.urb_client.specs.Requests.{Asked, Read, Wait}
use Rattle.urb_desk.specs.Desks.{IsJobOf}
use Rattle.urb_turn.specs.Loans.{Follows}
use Rattle.urb_turn.specs.Views.{FinishedView}
use Rattle.urb_world.specs.Step.{Event}

-- the worker is asked; this is so for all requests but a read and a wait
abbrev pub IsWork : Asked → Type 0
IsWork (Read place max) = ⊥
IsWork (Wait place max millis) = ⊥
IsWork asked = Unit {0}

-- what a worker returned is a turn of this request at node p, behind all events that had been seen
abbrev pub IsTurnFor : ℕ → List Event → Asked → FinishedView → Type 0
IsTurnFor p seen asked finished =
    IsJobOf p asked finished.job × (finished.ran ≡ true)
    × Follows seen finished.ran finished.loans
