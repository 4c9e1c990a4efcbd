-- The responses that a follower prints, one after the other.
use Rattle.urb_cli.proofs.Common.{Accepted, Asked, Content, Done, Follows, Goes, Label, List}
use Rattle.urb_cli.proofs.Common.{Listing, Option, Refused, Said, Some, StreamFault, [], arith, inl}
use Rattle.urb_cli.proofs.Common.{inr, length, refl, subst, ℕ, ◌++◌, ◌+◌, ◌<◌, ◌∷◌, ◌≡◌}
use Rattle.std.proofs.lemmas.List.{length-append}
use Rattle.urb_client.specs.Responses.{Status}
use Rattle.urb_cli.specs.Following.{IsAnswered, IsFollowed, Prints, Reader, StopsAfter}
use Rattle.urb_cli.specs.internal.Following.{IsUnprinted}
use Rattle.urb_cli.specs.declared.client.call_fault.CallFault.TheVariants.{BadReply}
use Rattle.urb_cli.proofs.StepsMore.{one_step_more}

module _ {C : Type 0} (calls : C → Asked → Option Said → C → Type 0)
    (line : Label × Content → List ℕ) where
  -- one more response is printed
  pub one_more_page : (caller : C) (place : ℕ) (output : Option (List ℕ)) (old : Reader C)
      (count : ℕ) (new_caller : C) (next : ℕ) (new_output : Option (List ℕ))
      → ((answers : List Said) × (length answers ≡ count)
      × Follows calls line caller place output answers old)
      → Goes calls line old new_caller next new_output
      → ((answers : List Said) × (length answers ≡ count + 1)
      × Follows calls line caller place output answers
      (record { caller = new_caller; place = next; output = new_output }))
  one_more_page caller place output old count new_caller next new_output so_far goes =
      let longer : length (so_far.0 ++ goes.0 ∷ []) ≡ length so_far.0 + 1 =
      length-append so_far.0 (goes.0 ∷ []) in (
        so_far.0 ++ goes.0 ∷ [],
        omega (arith, longer, so_far.1),
        one_step_more (IsFollowed calls line) _ _ _ so_far.0 goes.0 so_far.2 goes.1,
      )

  -- the next place is one of the log, too
  pub still_a_place : (old : Reader C) (new_caller : C) (next : ℕ) (new_output : Option (List ℕ))
      → Goes calls line old new_caller next new_output → 0 < old.place → 0 < next
  still_a_place old new_caller next new_output goes some = go goes.0 goes.1.1
    where
      go : (said : Said) → Prints calls line old said
          (record { caller = new_caller; place = next; output = new_output }) → 0 < next
      go (Listing page) prints =
          let here : next ≡ old.place + length page = prints.0 in omega (arith, some, here)
      go (Refused number detail) prints =
          let here : next ≡ old.place = prints.1 in omega (arith, some, here)
      go (Accepted seq) prints = absurd prints
      go (Status state own logged) prints = absurd prints
      go Done prints = absurd prints

-- a turn that prints nothing, or not all, is where a follower stops
pub stops_unprinted : {C : Type 0} (calls : C → Asked → Option Said → C → Type 0) (last : Reader C)
    (said : Said) (why : StreamFault) (caller : C) (output : Option (List ℕ))
    → IsAnswered calls last.caller last.place (Some said) caller
    → IsUnprinted last.place last.output said why output
    → StopsAfter calls last why caller output
stops_unprinted calls last said why caller output answered unprinted =
    elim unprinted [
      | inl unwritten ↦ inr (inl (said, answered, unwritten))
      | inr (inl ended) ↦
          inr (inr (
            ended.0,
            subst (λ s. IsAnswered calls last.caller last.place (Some s) caller) ended.1 answered,
            ended.2,
            ended.3,
            ended.4,
          ))
      | inr (inr other) ↦
          inl (
            answered.0,
            BadReply,
            answered.1,
            other.1,
            inr (said, answered.2, other.0, refl),
            other.2,
          )
    ]
