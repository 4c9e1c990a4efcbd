-- Calls of a node, one after the other.
use Rattle.std.specs.Prelude.{◌≡◌, ◌⊎◌, ℕ, zero, suc, List, [], ◌∷◌, Option, Some, None, Result, Ok}
use Rattle.std.specs.Prelude.{Err}
use Rattle.urb_client.specs.declared.response.Response.{Response}
use Rattle.urb_client.specs.Requests.{Asked}
use Rattle.urb_client.specs.Responses.{Said, said_by}
use Rattle.urb_cli.specs.CallFaults.{IsNoMemory}
use Rattle.urb_cli.specs.ClientOutput.{Shown}
use Rattle.urb_cli.specs.declared.client.call_fault.CallFault.{CallFault}
use Rattle.urb_cli.specs.declared.client.call_fault.CallFault.TheVariants.{BadReply}
use Rattle.urb_cli.specs.declared.client.caller.TheConstants.{TRIES}

-- what a call was answered: its response, or nothing
abbrev pub answer_of : {A E : Type 0} → Result (Response A) E → Option Said
answer_of (Ok response) = Some (said_by response)
answer_of (Err fault) = None

-- Steps of this kind lead from the first state to the last one, one step for each item.
abbrev pub Steps : {S X : Type 0} → (S → X → S → Type 0) → S → List X → S → Type 0
Steps {S} step old [] new = new ≡ old
Steps {S} step old (x ∷ xs) new = (mid : S) × step old x mid × Steps step mid xs new

-- each of the calls with this request, counted by the number, had no response
abbrev pub Fails : {S : Type 0} → (S → Asked → Option Said → S → Type 0) → Asked → S → ℕ → S
    → Type 0
Fails {S} calls asked old zero new = new ≡ old
Fails {S} calls asked old (suc n) new =
    (mid : S) × Fails calls asked old n mid × calls mid asked None new

-- The same request was sent again after each call without a response. This is what the last call
-- was answered.
abbrev pub Insists : {S : Type 0} → (S → Asked → Option Said → S → Type 0) → Asked → S
    → Option Said → S → Type 0
Insists {S} calls asked old answer new =
    (failures : ℕ) × (mid : S) × Fails calls asked old failures mid × calls mid asked answer new

-- A request is given up with this fault. Memory was refused, or each of TRIES calls and one more had
-- no response.
abbrev pub GivesUp : {S : Type 0} → (S → Asked → Option Said → S → Type 0) → Asked → S → CallFault
    → S → Type 0
GivesUp calls asked old why new = IsNoMemory why ⊎ Fails calls asked old (suc TRIES) new

-- A request has no response that shows anything, for this reason. It is given up, or the response is
-- of another kind.
abbrev pub GetsNothing : {S : Type 0} → (S → Asked → Option Said → S → Type 0)
    → (Said → Option Shown) → Asked → S → CallFault → S → Type 0
GetsNothing calls shows asked old why new =
    GivesUp calls asked old why new
    ⊎ ((said : Said) × Insists calls asked old (Some said) new × (shows said ≡ None)
    × (why ≡ BadReply))
