-- The loans of the House in a turn: what its past was when a worker got it, and when the worker
-- gave it back.
use Rattle.std.specs.Prelude.{List, Option, Some, ◌≡◌, [], None, Bool, false, true}
use Rattle.urb_world.specs.Step.{Event}
use Rattle.urb_show.specs.Houses.{HouseView}
use mathlib.Core.List.{IsPrefix}

-- one loan: all events until the House was lent, and all events until it was given back
pub record LoanView : Type 0 where
  pub lent : List Event
  pub back : List Event

-- the two loans of a turn: before the store's part, and after it
pub record LoansView : Type 0 where
  pub first : LoanView
  pub last : LoanView

-- The House was lent in the first of these states, and given back in the second.
pub record IsLoan (lent back : HouseView) (loan : LoanView) : Type 0 where
  pub lent_at : loan.lent ≡ lent.past
  pub back_at : loan.back ≡ back.past

-- The turn had this first loan. In its last loan, the House was lent in the first of these states
-- and given back in the second. The last loan began behind the first one.
pub record AreLoans (first : Option LoanView) (lent back : HouseView)
    (loans : LoansView) : Type 0 where
  pub first_is : first ≡ Some loans.first
  pub last_is : IsLoan lent back loans.last
  pub later : IsPrefix loans.first.back loans.last.lent

-- The House was lent in the first of these states and given back in the second, and then lent in
-- the third and given back in the fourth. Between the two loans the past only grew.
pub record AreLoansOf (lent given_back lent_again left : HouseView)
    (loans : LoansView) : Type 0 where
  pub first_is : IsLoan lent given_back loans.first
  pub last_is : IsLoan lent_again left loans.last
  pub later : IsPrefix given_back.past lent_again.past

-- all events until a moment; without one, none
abbrev pub events_until : Option (List Event) → List Event
events_until None = []
events_until (Some events) = events

-- The turn got the House behind all events that had been seen. A job that did not run has no place.
abbrev pub Follows : List Event → Bool → Option LoansView → Type 0
Follows seen true (Some loans) = IsPrefix seen loans.first.lent
Follows seen true None = ⊥
Follows seen false loans = Unit {0}

-- the moment when a turn ended, if there was one
abbrev pub end_of : Bool → Option LoansView → Option (List Event)
end_of true (Some loans) = Some loans.last.back
end_of true None = None
end_of false loans = None
