-- What a desk has seen after a turn, and what is no turn of a request.
use Rattle.urb_desk.proofs.Common.{Asked, Bool, DeskView, Event, GroupView, IsJobOf, List}
use Rattle.urb_desk.proofs.Common.{LoansView, MatchOption, None, Option, Said, Sees, Some, Works}
use Rattle.urb_desk.proofs.Common.{false, false≢true, inl, subst, sym, told_of, true, ℕ, ◌↔◌, ◌∙◌}
use Rattle.urb_desk.proofs.Common.{◌≡◌}
use Rattle.urb_desk.specs.Desks.{LearnsTold}
use Rattle.urb_desk.specs.internal.Desks.{IsTurnFor}
use Rattle.urb_turn.specs.Loans.{Follows, end_of}
use Rattle.urb_turn.specs.Settlings.{told_in}
use Rattle.urb_turn.specs.Turns.{IsOutcome}
use Rattle.urb_turn.specs.Views.{FinishedView}

-- the desk keeps the moment of the turn's end
pub sees : (seen now : List Event) (ran : Bool) (loans : Option LoansView)
    (end : Option (List Event)) → ran ≡ true → Follows seen ran loans → end ≡ end_of ran loans
    → MatchOption end (now ≡ seen) (λ m. now ≡ m) → Sees seen loans now
sees seen now true (Some loans) end ran follows is learnt = (
  follows,
  subst (λ (o : Option (List Event)). MatchOption o (now ≡ seen) (λ m. now ≡ m)) is
      learnt,
)
sees seen now true None end ran follows is learnt = absurd follows
sees seen now false loans end ran follows is learnt = absurd (cc)

-- ---- what is no turn of a request

module _ (p : ℕ) (seen : List Event) (asked : Asked) (finished : FinishedView) where
  -- a job that did not run is no turn of a request
  pub no_run : finished.ran ≡ false → IsTurnFor p seen asked finished → ⊥
  no_run idle is = false≢true (sym idle ∙ is.1)

  -- a turn that got the House before what had been seen is no turn of a request
  pub an_earlier_turn : (later : Bool) → later ≡ false
      → (later ≡ true ↔ Follows seen finished.ran finished.loans)
      → IsTurnFor p seen asked finished → ⊥
  an_earlier_turn later early same is = false≢true (sym early ∙ same.1 is.2)

  -- a turn of another job is no turn of a request
  pub another_job : (same : Bool) → same ≡ false → (IsJobOf p asked finished.job → same ≡ true)
      → IsTurnFor p seen asked finished → ⊥
  another_job same other each is = false≢true (sym other ∙ each is.0)

-- A turn of a request is what a desk answers by, once the desk has learnt what the turn published.
pub works_by_turn : (opened : GroupView) (before after : DeskView) (asked : Asked) (said : Said)
    (turn : FinishedView) → IsTurnFor before.node before.past asked turn
    → IsOutcome opened turn.ran turn.job turn.reply turn.status turn.settling turn.loans
    → LearnsTold (told_in turn.settling) before.known after.known
    → said ≡ told_of turn.reply turn.status → Sees before.past turn.loans after.past
    → Works opened before asked said after
works_by_turn opened before after asked said turn is outcome learnt told seen =
    let ran : IsOutcome opened true turn.job turn.reply turn.status turn.settling turn.loans =
    subst (λ (ran : Bool).
    IsOutcome opened ran turn.job turn.reply turn.status turn.settling turn.loans) is.1 outcome in
    inl (turn.job, turn.reply, turn.status, turn.settling, turn.loans, is.0, ran, learnt, told, seen)
