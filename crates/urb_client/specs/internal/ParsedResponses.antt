-- A response, read from left to right. Each part gives its value and the bytes after it, or
-- nothing.
use Rattle.std.specs.Prelude.{ℕ, zero, suc, ◌==◌, ◌&&◌, nat_lt, nat_le, List, [], ◌∷◌, length, take}
use Rattle.std.specs.Prelude.{drop, Option, Some, None, if◌then◌else◌}
use Rattle.byteorder.specs.Endian.{big_number}
use Rattle.urb_names.specs.LabelsAndContents.{Label, Content}
use Rattle.urb_names.specs.Nodes.{is_node}
use Rattle.urb_client.specs.declared.response.NodeState.{NodeState}
use Rattle.urb_client.specs.declared.response.NodeState.TheVariants as state
use Rattle.urb_client.specs.declared.format.TheConstants.{MOST_ENTRIES, SAY_ACCEPTED, SAY_ENTRIES}
use Rattle.urb_client.specs.declared.format.TheConstants.{SAY_STATUS, SAY_DONE, SAY_REFUSED}
use Rattle.urb_names.specs.declared.limits.TheConstants.{MAX_NODES, MAX_PAYLOAD}
use Rattle.urb_client.specs.Responses.{Said, Accepted, Listing, Status, Done, Refused}

infixl 10 ◌>>=◌
-- one part, and then the part that depends on its value
abbrev pub ◌>>=◌ : {A B : Type 0} → Option A → (A → Option B) → Option B
(Some x) >>= f = f x
None >>= f = None

-- the first byte
abbrev pub byte_at : List ℕ → Option (ℕ × List ℕ)
byte_at [] = None
byte_at (byte ∷ rest) = Some (byte, rest)

-- the number in the first n bytes
abbrev pub number_at : ℕ → List ℕ → Option (ℕ × List ℕ)
number_at n bytes =
    if nat_lt (length bytes) n then None else Some (big_number n bytes, drop n bytes)

-- a name
unfoldable pub name_at : List ℕ → Option (Label × List ℕ)
name_at bytes = do
  sender ← byte_at bytes
  seq ← number_at 4 sender.1
  if is_node MAX_NODES sender.0
      && nat_lt 0 seq.0 then Some (record { sender = sender.0; seq = seq.0 }, seq.1) else None

-- a message
unfoldable pub message_at : List ℕ → Option (Content × List ℕ)
message_at bytes = do
  client ← number_at 2 bytes
  number ← number_at 4 client.1
  size ← number_at 2 number.1
  if (nat_lt 0 client.0 && nat_lt 0 number.0)
      && (nat_le size.0 MAX_PAYLOAD && nat_le size.0 (length size.1))
      then Some (
        record { client = client.0; number = number.0; payload = take size.0 size.1 },
        drop size.0 size.1,
      ) else None

-- a name and its message
unfoldable pub entry_at : List ℕ → Option ((Label × Content) × List ℕ)
entry_at bytes = do
  name ← name_at bytes
  message ← message_at name.1
  Some ((name.0, message.0), message.1)

-- n entries
unfoldable pub entries_at : ℕ → List ℕ → Option (List (Label × Content) × List ℕ)
entries_at zero bytes = Some ([], bytes)
entries_at (suc n) bytes = do
  first ← entry_at bytes
  others ← entries_at n first.1
  Some (first.0 ∷ others.0, others.1)

-- a node's state
abbrev pub state_of : ℕ → Option NodeState
state_of byte =
    if byte == 0 then Some state.Down
    else if byte == 1 then Some state.Ready
    else if byte == 2 then Some state.Storing
    else None

-- a response, if nothing is left after it
abbrev pub at_end : Said → List ℕ → Option Said
at_end said rest = if length rest == 0 then Some said else None

-- after the opcode of an acceptance: the number
unfoldable pub accepted_of : List ℕ → Option Said
accepted_of fields = do
  seq ← number_at 4 fields
  at_end (Accepted seq.0) seq.1

-- after the opcode of entries: their count, and the entries
unfoldable pub entries_of : List ℕ → Option Said
entries_of fields = do
  count ← byte_at fields
  entries ← if nat_lt MOST_ENTRIES count.0 then None else entries_at count.0 count.1
  at_end (Listing entries.0) entries.1

-- after the opcode of a status: the state, and the two counts
unfoldable pub status_of : List ℕ → Option Said
status_of fields = do
  byte ← byte_at fields
  state ← state_of byte.0
  own ← number_at 4 byte.1
  logged ← number_at 4 own.1
  at_end (Status state own.0 logged.0) logged.1

-- after the opcode of a refusal: its number and its detail
unfoldable pub refused_of : List ℕ → Option Said
refused_of fields = do
  number ← byte_at fields
  detail ← number_at 4 number.1
  at_end (Refused number.0 detail.0) detail.1

-- the response whose bytes, after the length, these are
abbrev pub said_of : List ℕ → Option Said
said_of [] = None
said_of (opcode ∷ fields) =
    if opcode == SAY_ACCEPTED then accepted_of fields
    else if opcode == SAY_ENTRIES then entries_of fields
    else if opcode == SAY_STATUS then status_of fields
    else if opcode == SAY_DONE then at_end Done fields
    else if opcode == SAY_REFUSED then refused_of fields
    else None
