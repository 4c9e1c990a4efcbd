-- What `urbd follow` does.
use Rattle.std.specs.Prelude.{◌≡◌, ◌⊎◌, ℕ, ◌+◌, ◌<◌, List, [], ◌∷◌, length, flat_map, Option, Some}
use Rattle.std.specs.Prelude.{None}
use Rattle.std.specs.Io.KnownBytes.{Appends}
use Rattle.urb_names.specs.LabelsAndContents.{Label, Content}
use Rattle.urb_client.specs.Requests.{Asked, Read, Wait}
use Rattle.urb_client.specs.Responses.{Said, Listing, Refused}
use Rattle.urb_cli.specs.Advice.{explained_refusal}
use Rattle.urb_cli.specs.Calls.{GetsNothing, Insists, Steps}
use Rattle.urb_cli.specs.ClientOutput.{read_shown}
use Rattle.urb_cli.specs.Streams.{IsUnwritten}
use Rattle.urb_cli.specs.declared.client.call_fault.CallFault.{CallFault}
use Rattle.urb_cli.specs.declared.client.stream_fault.StreamFault.TheVariants as fault
use Rattle.urb_cli.specs.declared.client.stream_fault.StreamFault.{StreamFault}

-- how far a follower is: its caller, the next place of the log, and the bytes of its output
pub record Reader (C : Type 0) : Type 0 where
  pub caller : C
  pub place : ℕ
  pub output : Option (List ℕ)

-- the request asks for the log from this place on
abbrev pub IsFrom : ℕ → Asked → Type 0
IsFrom place (Read from max) = from ≡ place
IsFrom place (Wait from max millis) = from ≡ place
IsFrom place _ = ⊥

-- the node is asked for its log from this place on, and answers so
abbrev pub IsAnswered : {C : Type 0} → (C → Asked → Option Said → C → Type 0) → C → ℕ → Option Said
    → C → Type 0
IsAnswered calls old place answer new =
    (asked : Asked) × IsFrom place asked × Insists calls asked old answer new

-- Why a follower breaks off after its last page: the node is asked for the log from the next place
-- on. It gives no response to a read. Or what it gives can't be printed. Or its page ends after the
-- last place of any log.
abbrev pub StopsAfter : {C : Type 0} → (C → Asked → Option Said → C → Type 0) → Reader C
    → StreamFault → C → Option (List ℕ) → Type 0
StopsAfter calls last why caller output =
    ((asked : Asked) × (broken : CallFault) × IsFrom last.place asked × (why ≡ fault.Call broken)
    × GetsNothing calls read_shown asked last.caller broken caller × (output ≡ last.output))
    ⊎ ((said : Said) × IsAnswered calls last.caller last.place (Some said) caller
    × IsUnwritten why last.output output)
    ⊎ ((page : List (Label × Content))
    × IsAnswered calls last.caller last.place (Some (Listing page)) caller × (why ≡ fault.AtEnd)
    × (4294967295 < last.place + length page) × (output ≡ last.output))

module _ {C : Type 0} (calls : C → Asked → Option Said → C → Type 0)
    (line : Label × Content → List ℕ) where
  -- The response is printed. Of a page the lines of all entries are printed, once and in order, and
  -- the next place is the one after them. Of a node that doesn't know the request, nothing is.
  abbrev pub Prints : Reader C → Said → Reader C → Type 0
  Prints old (Listing page) new =
      (new.place ≡ old.place + length page) × Appends old.output new.output (flat_map line page)
  Prints old (Refused number detail) new =
      (number ≡ 19) × (new.place ≡ old.place) × (new.output ≡ old.output)
  Prints old _ new = ⊥

  -- the log from the next place on is asked for, and the response is printed
  abbrev pub IsFollowed : Reader C → Said → Reader C → Type 0
  IsFollowed old said new =
      IsAnswered calls old.caller old.place (Some said) new.caller × Prints old said new

  -- all responses so far are printed, in order
  abbrev pub Follows : C → ℕ → Option (List ℕ) → List Said → Reader C → Type 0
  Follows caller place output answers last =
      Steps IsFollowed (record { caller = caller; place = place; output = output }) answers last

  -- the node refused, and after the lines of all pages the refusal is printed
  abbrev pub IsRefusedAfter : C → ℕ → Option (List ℕ) → C → Option (List ℕ) → Type 0
  IsRefusedAfter caller place output new_caller new_output =
      (answers : List Said) × (last : Reader C) × (number : ℕ) × (detail : ℕ)
      × Follows caller place output answers last
      × IsAnswered calls last.caller last.place (Some (Refused number detail)) new_caller
      × Appends last.output new_output (explained_refusal number detail)

  -- It breaks off with this fault after the lines of all pages. Or it has had as many responses as
  -- it counts.
  abbrev pub BreaksOffAfter : C → ℕ → Option (List ℕ) → StreamFault → C → Option (List ℕ) → Type 0
  BreaksOffAfter caller place output why new_caller new_output =
      (answers : List Said) × (last : Reader C) × Follows caller place output answers last
      × (StopsAfter calls last why new_caller new_output
      ⊎ ((why ≡ fault.AtEnd) × (length answers ≡ 18446744073709551615)
      × (new_output ≡ last.output)))
