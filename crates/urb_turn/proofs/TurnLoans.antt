-- The loans of the House in a turn, from the moments that the House gave.
use Rattle.urb_turn.proofs.Common.{AreLoans, Event, HouseView, IfSome, IsLoan, IsPrefix, List}
use Rattle.urb_turn.proofs.Common.{LoanView, LoansView, None, Option, Some, subst}
use Rattle.urb_turn.proofs.Common.{◌≡◌}
use Rattle.urb_turn.specs.Loans.{AreLoansOf}

marked : (moment : Option (List Event)) (m past : List Event) → IfSome moment (λ x. x ≡ past)
    → moment ≡ Some m → m ≡ past
marked moment m past is same =
    subst (λ (o : Option (List Event)). IfSome o (λ x. x ≡ past)) same is

-- a loan between two moments
pub is_loan : (lent back : Option (List Event)) (old new : HouseView) (loan : Option LoanView)
    → IfSome lent (λ m. m ≡ old.past) → IfSome back (λ m. m ≡ new.past)
    → IfSome loan (λ l. (lent ≡ Some l.lent) × (back ≡ Some l.back))
    → IfSome loan (λ l. IsLoan old new l)
is_loan lent back old new None was is h = tt
is_loan lent back old new (Some loan) was is h = record {
  lent_at = marked lent loan.lent old.past was h.0;
  back_at = marked back loan.back new.past is h.1;
}

-- a loan that is there is the loan between these states
pub one_loan : (loan : Option LoanView) (l : LoanView) (old new : HouseView)
    → IfSome loan (λ x. IsLoan old new x) → loan ≡ Some l → IsLoan old new l
one_loan loan l old new is same =
    subst (λ (o : Option LoanView). IfSome o (λ x. IsLoan old new x)) same is

-- the two loans of a turn
pub are_loans : (first last : Option LoanView) (old new : HouseView) (loans : Option LoansView)
    → IfSome last (λ l. IsLoan old new l)
    → IfSome loans (λ l. (first ≡ Some l.first) × (last ≡ Some l.last)
    × IsPrefix l.first.back l.last.lent)
    → IfSome loans (λ l. AreLoans first old new l)
are_loans first last old new None is h = tt
are_loans first last old new (Some loans) is h = record {
  first_is = h.0;
  last_is = one_loan last loans.last old new is h.1;
  later = h.2;
}

-- the same, by the four states of the House
pub loans_of : (first : Option LoanView) (lent given_back again left : HouseView)
    (loans : Option LoansView) → IfSome first (λ l. IsLoan lent given_back l)
    → IfSome loans (λ l. AreLoans first again left l)
    → IfSome loans (λ l. AreLoansOf lent given_back again left l)
loans_of first lent given_back again left None is h = tt
loans_of first lent given_back again left (Some loans) is h =
    let one : IsLoan lent given_back loans.first =
    one_loan first loans.first lent given_back is h.first_is in
    record {
      first_is = one;
      last_is = h.last_is;
      later =
          subst (λ (l : List Event). IsPrefix l again.past) one.back_at
          (subst (λ (l : List Event). IsPrefix loans.first.back l) h.last_is.lent_at h.later);
    }
