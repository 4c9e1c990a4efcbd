-- What a client's commands show.
use Rattle.std.specs.Prelude.{◌≡◌, ◌+◌, ℕ, ◌==◌, ◌/◌, ◌%◌, nat_lt, List, [], ◌∷◌, ◌++◌, length}
use Rattle.std.specs.Prelude.{flat_map, Option, Some, None, if◌then◌else◌, codes}
use Rattle.std.specs.Fmt.{decimal}
use Rattle.urb_options.specs.Addresses.{Address}
use Rattle.urb_cli.specs.AskedAddresses.{address_text}
use Rattle.urb_cli.specs.Advice.{explained_refusal}
use Rattle.urb_client.specs.declared.response.NodeState.{NodeState}
use Rattle.urb_client.specs.declared.response.NodeState.TheVariants as state
use Rattle.urb_names.specs.LabelsAndContents.{Label, Content}
use Rattle.urb_client.specs.Responses.{Said}
use Rattle.urb_cli.specs.declared.client.printed.Printed.{Printed}
use Rattle.urb_client.specs.Responses as said

-- a text, and the status of the program
abbrev pub Shown : Type 0
Shown = List ℕ × ℕ

-- what is printed, and the status, wherever they are in memory
abbrev pub shown_by : Printed → Shown
shown_by printed = (printed.text.items, printed.status)

-- a digit; from ten on it is a lower-case letter
abbrev pub hex_digit : ℕ → ℕ
hex_digit n = if nat_lt n 10 then 48 + n else 87 + n

-- the two digits of a byte
abbrev pub hex_byte : ℕ → List ℕ
hex_byte byte = hex_digit (byte / 16) ∷ hex_digit (byte % 16) ∷ []

-- a payload: the digits of its bytes, or a hyphen if it has no bytes
abbrev pub hex_payload : List ℕ → List ℕ
hex_payload payload = if length payload == 0 then codes "-" else flat_map hex_byte payload

-- the line of an entry: its name, the client, the client's number, and the payload
abbrev pub entry_line : Label × Content → List ℕ
entry_line entry =
    decimal entry.0.sender ++ (46
    ∷ (decimal entry.0.seq ++ (32 ∷ (decimal entry.1.client ++ (32 ∷ (decimal entry.1.number
    ++ (32 ∷ (hex_payload entry.1.payload ++ 10 ∷ []))))))))

-- a message was accepted: the line `accepted SEQ` with this number, and status 0
abbrev pub accepted_shown : ℕ → Shown
accepted_shown seq = (codes "accepted " ++ (decimal seq ++ 10 ∷ []), 0)

-- a request was refused: the line `refused NUMBER DETAIL`, and status 4
abbrev pub refused_shown : ℕ → ℕ → Shown
refused_shown number detail =
    (codes "refused " ++ (decimal number ++ (32 ∷ (decimal detail ++ 10 ∷ []))), 4)

-- these entries were read: their lines, and status 0
abbrev pub listing_shown : List (Label × Content) → Shown
listing_shown entries = (flat_map entry_line entries, 0)

-- what `urbd submit` shows for a response; nothing if it is no response to a submit
abbrev pub submit_shown : Said → Option Shown
submit_shown (said.Accepted seq) = Some (accepted_shown seq)
submit_shown (said.Refused number detail) = Some (refused_shown number detail)
submit_shown _ = None

-- what `urbd read` shows for a response; nothing if it is no response to a read
abbrev pub read_shown : Said → Option Shown
read_shown (said.Listing entries) = Some (listing_shown entries)
read_shown (said.Refused number detail) = Some (refused_shown number detail)
read_shown _ = None

-- the word of a node's state
abbrev pub state_word : NodeState → List ℕ
state_word state.Down = codes "down"
state_word state.Ready = codes "ready"
state_word state.Storing = codes "storing"

-- the line of the node at an address: its state, how many messages it has accepted, and how many
-- entries its log has
abbrev pub status_line : Address → NodeState → ℕ → ℕ → List ℕ
status_line at state own logged =
    address_text at ++ (32 ∷ (state_word state ++ (codes " accepted " ++ (decimal own
    ++ (codes " shown " ++ (decimal logged ++ 10 ∷ []))))))

-- What `urbd status` shows for a response of the node at an address: its line, or the address and
-- the refusal. Nothing if it is no response to a question for the state.
abbrev pub status_shown : Address → Said → Option Shown
status_shown at (said.Status state own logged) = Some (status_line at state own logged, 0)
status_shown at (said.Refused number detail) =
    Some (address_text at ++ (32 ∷ explained_refusal number detail), 4)
status_shown at _ = None

-- this is shown for some response
abbrev pub IsShown : (Said → Option Shown) → Shown → Type 0
IsShown shows shown = (answer : Said) × (shows answer ≡ Some shown)
