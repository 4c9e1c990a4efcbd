-- What the status of a submit or a read tells about the node's answer.
use Rattle.urb_cli.proofs.Common.{Accepted, Address, Asked, CallFault, Content, Done, Err, IfErr}
use Rattle.urb_cli.proofs.Common.{IfOk, Label, List, Listing, None, Ok, Option, Printed, Refused}
use Rattle.urb_cli.proofs.Common.{Result, Said, ShowsAnswer, Some, address_of, ap, arith, inl, inr}
use Rattle.urb_cli.proofs.Common.{length, shown_by, ℕ, ◌<◌, ◌≡◌, ◌⊎◌}
use Rattle.urb_names.specs.declared.limits.TheConstants.{MAX_PAYLOAD}
use Rattle.urb_client.specs.Responses.{Status}
use Rattle.urb_cli.specs.Asking.{ShowsSubmit, request_of_submitting}
use Rattle.urb_cli.specs.ClientOutput.{Shown, read_shown, submit_shown}
use Rattle.urb_options.specs.declared.task.SubmitOptions.{SubmitOptions}

-- the status that is shown, if anything is
abbrev status_in : Option Shown → ℕ
status_in None = 0
status_in (Some shown) = shown.1

-- it isn't 0 or 4 unless it is the one that is shown
pub shown_status : (printed : Printed) (status : ℕ)
    → ((status ≡ printed.status) ⊎ (status ≡ 1)) → (status ≡ 1 → ⊥) → status ≡ printed.status
shown_status printed status told other =
    elim told [ inl same ↦ same | inr one ↦ absurd (other one) ]

module _ {S : Type 0} (answers : S → Address → Asked → Option Said → S → Type 0) (at : Address)
    (asked : Asked) (old new : S) where
  -- a submit that shows the status 0 was accepted
  pub accepted_as_shown : (shown : Shown) → ShowsAnswer answers submit_shown at asked old shown new
      → shown.1 ≡ 0 → (seq : ℕ) × answers old at asked (Some (Accepted seq)) new
  accepted_as_shown shown answer zero = go answer.0 answer.1 answer.2
    where
      go : (said : Said) → answers old at asked (Some said) new → submit_shown said ≡ Some shown
          → (seq : ℕ) × answers old at asked (Some (Accepted seq)) new
      go (Accepted seq) answered same = (seq, answered)
      go (Refused number detail) answered same =
          let four : 4 ≡ shown.1 = ap status_in same in absurd (omega (arith, four, zero))
      go (Listing page) answered same = absurd (let no : None ≡ Some shown = same in cc)
      go (Status state own logged) answered same = absurd (let no : None ≡ Some shown = same in cc)
      go Done answered same = absurd (let no : None ≡ Some shown = same in cc)

  -- a submit that shows the status 4 was refused
  pub refused_as_shown : (shown : Shown) → ShowsAnswer answers submit_shown at asked old shown new
      → shown.1 ≡ 4
      → (number : ℕ) × (detail : ℕ) × answers old at asked (Some (Refused number detail)) new
  refused_as_shown shown answer four = go answer.0 answer.1 answer.2
    where
      go : (said : Said) → answers old at asked (Some said) new → submit_shown said ≡ Some shown
          → (number : ℕ) × (detail : ℕ) × answers old at asked (Some (Refused number detail)) new
      go (Accepted seq) answered same =
          let zero : 0 ≡ shown.1 = ap status_in same in absurd (omega (arith, four, zero))
      go (Refused number detail) answered same = (number, detail, answered)
      go (Listing page) answered same = absurd (let no : None ≡ Some shown = same in cc)
      go (Status state own logged) answered same = absurd (let no : None ≡ Some shown = same in cc)
      go Done answered same = absurd (let no : None ≡ Some shown = same in cc)

  -- a read that shows the status 0 got entries
  pub listed_as_shown : (shown : Shown) → ShowsAnswer answers read_shown at asked old shown new
      → shown.1 ≡ 0
      → (page : List (Label × Content)) × answers old at asked (Some (Listing page)) new
  listed_as_shown shown answer zero = go answer.0 answer.1 answer.2
    where
      go : (said : Said) → answers old at asked (Some said) new → read_shown said ≡ Some shown
          → (page : List (Label × Content)) × answers old at asked (Some (Listing page)) new
      go (Listing page) answered same = (page, answered)
      go (Refused number detail) answered same =
          let four : 4 ≡ shown.1 = ap status_in same in absurd (omega (arith, four, zero))
      go (Accepted seq) answered same = absurd (let no : None ≡ Some shown = same in cc)
      go (Status state own logged) answered same = absurd (let no : None ≡ Some shown = same in cc)
      go Done answered same = absurd (let no : None ≡ Some shown = same in cc)

  -- a read that shows the status 4 was refused
  pub unread_as_shown : (shown : Shown) → ShowsAnswer answers read_shown at asked old shown new
      → shown.1 ≡ 4
      → (number : ℕ) × (detail : ℕ) × answers old at asked (Some (Refused number detail)) new
  unread_as_shown shown answer four = go answer.0 answer.1 answer.2
    where
      go : (said : Said) → answers old at asked (Some said) new → read_shown said ≡ Some shown
          → (number : ℕ) × (detail : ℕ) × answers old at asked (Some (Refused number detail)) new
      go (Listing page) answered same =
          let zero : 0 ≡ shown.1 = ap status_in same in absurd (omega (arith, four, zero))
      go (Refused number detail) answered same = (number, detail, answered)
      go (Accepted seq) answered same = absurd (let no : None ≡ Some shown = same in cc)
      go (Status state own logged) answered same = absurd (let no : None ≡ Some shown = same in cc)
      go Done answered same = absurd (let no : None ≡ Some shown = same in cc)

  -- a read that ends with 0 got entries
  pub was_listed : (outcome : Result Printed CallFault) (status : ℕ)
      → IfOk outcome (λ shown. (status ≡ shown.status) ⊎ (status ≡ 1))
      → IfErr outcome (λ fault. status ≡ 1)
      → IfOk outcome (λ shown. ShowsAnswer answers read_shown at asked old (shown_by shown) new)
      → status ≡ 0
      → (page : List (Label × Content)) × answers old at asked (Some (Listing page)) new
  was_listed (Err why) status told fault shown zero = absurd (omega (arith, fault, zero))
  was_listed (Ok printed) status told fault shown zero =
      let same = shown_status printed status told (λ one. omega (arith, one, zero)) in
      listed_as_shown (shown_by printed) shown (omega (arith, same, zero))

  -- a read that ends with 4 was refused
  pub was_unread : (outcome : Result Printed CallFault) (status : ℕ)
      → IfOk outcome (λ shown. (status ≡ shown.status) ⊎ (status ≡ 1))
      → IfErr outcome (λ fault. status ≡ 1)
      → IfOk outcome (λ shown. ShowsAnswer answers read_shown at asked old (shown_by shown) new)
      → status ≡ 4
      → (number : ℕ) × (detail : ℕ) × answers old at asked (Some (Refused number detail)) new
  was_unread (Err why) status told fault shown four = absurd (omega (arith, fault, four))
  was_unread (Ok printed) status told fault shown four =
      let same = shown_status printed status told (λ one. omega (arith, one, four)) in
      unread_as_shown (shown_by printed) shown (omega (arith, same, four))

module _ {S : Type 0} (answers : S → Address → Asked → Option Said → S → Type 0)
    (s : SubmitOptions) (old new : S) where
  -- a submit that ends with 0 was accepted
  pub was_accepted : (outcome : Result Printed CallFault) (status : ℕ)
      → IfOk outcome (λ shown. (status ≡ shown.status) ⊎ (status ≡ 1))
      → IfErr outcome (λ fault. status ≡ 1)
      → IfOk outcome (λ shown. ShowsSubmit answers s old (shown_by shown) new) → status ≡ 0
      → (seq : ℕ)
      × answers old (address_of s.at) (request_of_submitting s) (Some (Accepted seq)) new
  was_accepted (Err why) status told fault shown zero = absurd (omega (arith, fault, zero))
  was_accepted (Ok printed) status told fault shown zero =
      let same = shown_status printed status told (λ one. omega (arith, one, zero)) in
      elim shown [
        | inl long ↦
            let four : printed.status ≡ 4 = ap (λ (it : Shown). it.1) long.2 in
            absurd (omega (arith, same, zero, four))
        | inr sent ↦
            accepted_as_shown answers (address_of s.at) (request_of_submitting s) old new
            (shown_by printed) sent.1 (omega (arith, same, zero))
      ]

  -- a submit that ends with 4 was refused, or its text is too long
  pub was_refused : (outcome : Result Printed CallFault) (status : ℕ)
      → IfOk outcome (λ shown. (status ≡ shown.status) ⊎ (status ≡ 1))
      → IfErr outcome (λ fault. status ≡ 1)
      → IfOk outcome (λ shown. ShowsSubmit answers s old (shown_by shown) new) → status ≡ 4
      → (MAX_PAYLOAD < length s.text.now)
      ⊎ ((number : ℕ) × (detail : ℕ)
      × answers old (address_of s.at) (request_of_submitting s) (Some (Refused number detail)) new)
  was_refused (Err why) status told fault shown four = absurd (omega (arith, fault, four))
  was_refused (Ok printed) status told fault shown four =
      let same = shown_status printed status told (λ one. omega (arith, one, four)) in
      elim shown [
        | inl long ↦ inl long.0
        | inr sent ↦
            inr (refused_as_shown answers (address_of s.at) (request_of_submitting s) old new
            (shown_by printed) sent.1 (omega (arith, same, four)))
      ]
