-- The parts of a run of `urbd publish`. Only proofs need them.
use Rattle.std.specs.Prelude.{◌≡◌, ℕ, ◌+◌, List, [], Option, Some, None}
use Rattle.urb_client.specs.Requests.{Asked}
use Rattle.urb_client.specs.Responses.{Said, Accepted, Refused}
use Rattle.urb_cli.specs.Calls.{Steps}
use Rattle.urb_cli.specs.Publishing.{EndsAfter, IsPublished, Progress}
use Rattle.urb_cli.specs.declared.client.decision.Decision.{Decision}
use Rattle.urb_cli.specs.declared.client.decision.Decision.TheVariants as decision
use Rattle.urb_cli.specs.declared.client.stream_fault.StreamEnd.{StreamEnd}

-- the response that a node gave if this is its decision
abbrev pub decided : Decision → Said
decided (decision.Accepted seq) = Accepted seq
decided (decision.Refused number detail) = Refused number detail

module _ {T C : Type 0} (gives : T → List ℕ → T → Type 0) (ends : T → T → Type 0)
    (calls : C → Asked → Option Said → C → Type 0) (client : ℕ) where
  -- one more text is published, or it ends
  abbrev pub Turns : Progress T C → Option StreamEnd → T → C → Option (List ℕ) → Type 0
  Turns old None texts caller output =
      (done : List ℕ × ℕ) × IsPublished gives ends calls client old done
      (record { texts = texts; caller = caller; number = old.number + 1; output = output })
  Turns old (Some ended) texts caller output =
      EndsAfter gives ends calls client old ended texts caller output

  -- texts are published from here on, until it ends
  abbrev pub GoesOn : Progress T C → StreamEnd → T → C → Option (List ℕ) → Type 0
  GoesOn old ended texts caller output =
      (done : List (List ℕ × ℕ)) × (last : Progress T C)
      × Steps (IsPublished gives ends calls client) old done last
      × EndsAfter gives ends calls client last ended texts caller output
