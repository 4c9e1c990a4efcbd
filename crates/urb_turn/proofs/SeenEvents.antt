-- Whether a turn follows what a desk has seen.
use Rattle.urb_turn.proofs.Common.{Bool, Event, IsPrefix, IsTrue, List, LoansView, None, Option}
use Rattle.urb_turn.proofs.Common.{Some, events_until, false, refl, subst, sym, true, ◌↔◌, ◌≡◌}
use Rattle.urb_turn.specs.Loans.{Follows}

-- Whether a turn follows what was seen: always, if nothing was seen before.
pub after_nothing : (events : List Event) → (IsTrue true ↔ IsPrefix (events_until None) events)
after_nothing events = (λ is. (events, refl), λ behind. refl)

-- always, if the job did not run
pub after_unran : (seen : List Event) (ran : Bool) (loans : Option LoansView) → ran ≡ false
    → (IsTrue true ↔ Follows seen ran loans)
after_unran seen false loans e = (λ is. tt, λ follows. refl)
after_unran seen true loans e = absurd (cc)

-- never, if the House gave no moments
pub after_none : (seen : List Event) (ran : Bool) (loans : Option LoansView) → ran ≡ true
    → loans ≡ None → (IsTrue false ↔ Follows seen ran loans)
after_none seen true None e f = (λ is. absurd (cc), λ follows. absurd follows)
after_none seen true (Some loans) e f = absurd (cc)
after_none seen false loans e f = absurd (cc)

-- as the moments say
pub after_some : (seen : List Event) (result ran : Bool) (loans : Option LoansView)
    (these : LoansView) → ran ≡ true → loans ≡ Some these
    → (IsTrue result ↔ IsPrefix seen these.first.lent) → (IsTrue result ↔ Follows seen ran loans)
after_some seen result true (Some loans) these e f says =
    let same : loans ≡ these = cc in
    subst (λ (l : LoansView). IsTrue result ↔ IsPrefix seen l.first.lent) (sym same) says
after_some seen result true None these e f says = absurd (cc)
after_some seen result false loans these e f says = absurd (cc)
