-- What `urbd submit`, `read` and `status` do: they ask nodes, and show what these answer.
use Rattle.std.specs.Prelude.{◌≡◌, ◌⊎◌, ◌<◌, ◌≤◌, ◌==◌, ℕ, zero, suc, Option, Some, None, length}
use Rattle.std.specs.Prelude.{if◌then◌else◌}
use Rattle.urb_names.specs.declared.limits.TheConstants.{MAX_PAYLOAD}
use Rattle.urb_client.specs.Requests.{Asked, Ask, Read, Submit}
use Rattle.urb_client.specs.declared.request.Control.TheVariants.{Status}
use Rattle.urb_client.specs.Responses.{Said}
use Rattle.urb_options.specs.Addresses.{Address, address_of}
use Rattle.urb_cli.specs.AskedAddresses.{address_after}
use Rattle.urb_cli.specs.CallFaults.{IsNoMemory}
use Rattle.urb_cli.specs.ClientOutput.{Shown, refused_shown, status_shown, submit_shown}
use Rattle.urb_cli.specs.declared.client.call_fault.CallFault.{CallFault}
use Rattle.urb_cli.specs.declared.client.call_fault.CallFault.TheVariants.{BadReply}
use Rattle.urb_options.specs.declared.task.SubmitOptions.{SubmitOptions}
use Rattle.urb_options.specs.declared.task.ReadOptions.{ReadOptions}

-- the request to take this message
abbrev pub request_of_submitting : SubmitOptions → Asked
request_of_submitting s = Submit s.client s.number s.text.now

-- the request for these entries
abbrev pub request_of_reading : ReadOptions → Asked
request_of_reading r = Read r.from r.max

module _ {S : Type 0} (answers : S → Address → Asked → Option Said → S → Type 0) where
  -- the node at this address was asked once, and this is shown for its response
  abbrev pub ShowsAnswer : (Said → Option Shown) → Address → Asked → S → Shown → S → Type 0
  ShowsAnswer shows at asked old shown new =
      (said : Said) × answers old at asked (Some said) new × (shows said ≡ Some shown)

  -- Nothing is shown, for this reason. Memory was refused; or the node at this address was asked
  -- once, and gave no response; or it gave one that shows nothing.
  abbrev pub HasNoAnswer : (Said → Option Shown) → Address → Asked → S → CallFault → S → Type 0
  HasNoAnswer shows at asked old why new =
      IsNoMemory why ⊎ answers old at asked None new
      ⊎ ((said : Said) × answers old at asked (Some said) new × (shows said ≡ None)
      × (why ≡ BadReply))

  -- What a submit shows. A text that is too long isn't sent, and its refusal is shown. Else the node
  -- at the address was asked once to take the message, and this is shown for its response.
  abbrev pub ShowsSubmit : SubmitOptions → S → Shown → S → Type 0
  ShowsSubmit s old shown new =
      ((MAX_PAYLOAD < length s.text.now) × (new ≡ old) × (shown ≡ refused_shown 5 0))
      ⊎ ((length s.text.now ≤ MAX_PAYLOAD)
      × ShowsAnswer submit_shown (address_of s.at) (request_of_submitting s) old shown new)

  -- The node at this address was asked for its state, and this is the status of that call. It is
  -- the one that the response has, or 1 if it couldn't be written. It is 1 too without a response.
  abbrev pub IsNodesStatus : Address → S → ℕ → S → Type 0
  IsNodesStatus at old status new =
      ((shown : Shown) × ShowsAnswer (status_shown at) at (Ask Status) old shown new
      × ((status ≡ shown.1) ⊎ (status ≡ 1)))
      ⊎ ((why : CallFault) × HasNoAnswer (status_shown at) at (Ask Status) old why new
      × (status ≡ 1))

  -- The client asked `count` nodes for their states, at the addresses from this one on: each node
  -- once, in order. This status is that of the first call that didn't end well, or 0 if all did.
  abbrev pub AsksEach : Address → S → ℕ → ℕ → S → Type 0
  AsksEach first old zero status new = (new ≡ old) × (status ≡ 0)
  AsksEach first old (suc count) status new =
      (mid : S) × (before : ℕ) × (last : ℕ) × AsksEach first old count before mid
      × IsNodesStatus (address_after first count) mid last new
      × (status ≡ (if before == 0 then last else before))
