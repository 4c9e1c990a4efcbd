-- The parts of a run of `urbd follow`. Only proofs need them.
use Rattle.std.specs.Prelude.{◌≡◌, ◌⊎◌, ℕ, ◌+◌, ◌<◌, List, [], length, flat_map, Option, Some, None}
use Rattle.std.specs.Io.KnownBytes.{Appends}
use Rattle.urb_names.specs.LabelsAndContents.{Label, Content}
use Rattle.urb_client.specs.Requests.{Asked}
use Rattle.urb_client.specs.Responses.{Said, Listing, Refused}
use Rattle.urb_cli.specs.Advice.{explained_refusal}
use Rattle.urb_cli.specs.Following.{IsAnswered, IsFollowed, Reader}
use Rattle.urb_cli.specs.ClientOutput.{read_shown}
use Rattle.urb_cli.specs.Streams.{IsUnwritten}
use Rattle.urb_cli.specs.declared.client.call_fault.CallFault.TheVariants.{BadReply}
use Rattle.urb_cli.specs.declared.client.stream_fault.StreamFault.{StreamFault}
use Rattle.urb_cli.specs.declared.client.stream_fault.StreamFault.TheVariants as fault
use Rattle.urb_cli.specs.declared.client.follow_turn.FollowTurn.{FollowTurn}
use Rattle.urb_cli.specs.declared.client.follow_turn.FollowTurn.TheVariants as turn

-- what a turn prints of a response to a request for the log from a place on
abbrev pub IsPrinted : (Label × Content → List ℕ) → ℕ → Option (List ℕ) → Said → FollowTurn
    → Option (List ℕ) → Type 0
IsPrinted line place old said (turn.Page next) new =
    (page : List (Label × Content)) × (said ≡ Listing page) × (next ≡ place + length page)
    × Appends old new (flat_map line page)
IsPrinted line place old said turn.Older new =
    (detail : ℕ) × (said ≡ Refused 19 detail) × (new ≡ old)
IsPrinted line place old said turn.Refused new =
    (number : ℕ) × (detail : ℕ) × (said ≡ Refused number detail)
    × Appends old new (explained_refusal number detail)

-- The lines of a page with `count` entries aren't written, or the page ends after the last place.
abbrev pub IsPageUnwritten : ℕ → ℕ → Option (List ℕ) → StreamFault → Option (List ℕ) → Type 0
IsPageUnwritten place count old why new =
    IsUnwritten why old new
    ⊎ ((why ≡ fault.AtEnd) × (4294967295 < place + count) × (new ≡ old))

-- what is said isn't printed, or isn't printed whole, for this reason
abbrev pub IsUnprinted : ℕ → Option (List ℕ) → Said → StreamFault → Option (List ℕ) → Type 0
IsUnprinted place old said why new =
    IsUnwritten why old new
    ⊎ ((page : List (Label × Content)) × (said ≡ Listing page) × (why ≡ fault.AtEnd)
    × (4294967295 < place + length page) × (new ≡ old))
    ⊎ ((read_shown said ≡ None) × (why ≡ fault.Call BadReply) × (new ≡ old))

module _ {C : Type 0} (calls : C → Asked → Option Said → C → Type 0)
    (line : Label × Content → List ℕ) where
  -- one more response is printed, and the follower goes on from this place
  abbrev pub Goes : Reader C → C → ℕ → Option (List ℕ) → Type 0
  Goes old caller place output =
      (said : Said) × IsFollowed calls line old said
      (record { caller = caller; place = place; output = output })

  -- one turn: one more response is printed, or the refusal that ends it
  abbrev pub Turns : Reader C → FollowTurn → C → Option (List ℕ) → Type 0
  Turns old (turn.Page next) caller output = Goes old caller next output
  Turns old turn.Older caller output = Goes old caller old.place output
  Turns old turn.Refused caller output =
      (number : ℕ) × (detail : ℕ)
      × IsAnswered calls old.caller old.place (Some (Refused number detail)) caller
      × Appends old.output output (explained_refusal number detail)
