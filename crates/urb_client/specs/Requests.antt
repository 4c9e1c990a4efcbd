-- What the bytes of a request's frame say, after its length.
use Rattle.std.specs.Prelude.{◌≡◌, ◌<◌, ◌≤◌, ◌^◌, ◌⊎◌, ◌++◌, ◌==◌, ℕ, List, [], ◌∷◌, length}
use Rattle.std.specs.Prelude.{slice_index, drop, Result, Ok, Err, nat_lt, if◌then◌else◌, Option}
use Rattle.std.specs.Prelude.{None, Some}
use Rattle.byteorder.specs.Endian.{big_number, big_bytes}
use Rattle.urb_names.specs.declared.refusal.Refusal.{Refusal}
use Rattle.urb_names.specs.declared.refusal.Refusal.TheVariants.{Frame, NoMemory}
use Rattle.urb_client.specs.declared.request.Control.{Control}
use Rattle.urb_client.specs.declared.request.Control.TheVariants.{Crash, Restart, Status}
use Rattle.urb_client.specs.declared.request.Request.{Request}
use Rattle.urb_client.specs.declared.request.Request.TheVariants as code
use Rattle.urb_client.specs.declared.format.TheConstants.{ASK_SUBMIT, ASK_READ, ASK_STATUS}
use Rattle.urb_client.specs.declared.format.TheConstants.{ASK_CRASH, ASK_RESTART, UNKNOWN_OPCODE}
use Rattle.urb_client.specs.declared.format.TheConstants.{WRONG_LENGTH, BAD_VALUE, SUBMIT_HEAD}
use Rattle.urb_client.specs.declared.format.TheConstants.{READ_FIELDS, MOST_ENTRIES}
use Rattle.urb_client.specs.declared.format.TheConstants.{ASK_WAIT, WAIT_FIELDS}
use Rattle.urb_names.specs.declared.limits.TheConstants.{MAX_PAYLOAD}

-- What a client asks, as contracts see it. It may ask to broadcast a payload under its number. It
-- may ask for entries of the log from a place on, up to a number of them, and may wait for one. Or
-- it asks for the state of the node, a crash, or a restart.
pub data Asked : Type 0 where
  Submit : ℕ → ℕ → List ℕ → Asked
  Read : ℕ → ℕ → Asked
  Ask : Control → Asked
  Wait : ℕ → ℕ → ℕ → Asked

-- what a request asks
abbrev pub asked_by : {A : Type 0} → Request A → Asked
asked_by (code.Submit client number payload) = Submit client number payload
asked_by (code.Read place max) = Read place max
asked_by (code.Ask control) = Ask control
asked_by (code.Wait place max millis) = Wait place max millis

-- a request's values: a client and a place from 1, and one to MOST_ENTRIES entries
abbrev pub IsAsked : Asked → Type 0
IsAsked (Submit client number payload) = (0 < client) × (client < 2 ^ 16) × (number < 2 ^ 32)
IsAsked (Read place max) = (0 < place) × (place < 2 ^ 32) × (0 < max) × (max ≤ MOST_ENTRIES)
IsAsked (Ask control) = Unit {0}
IsAsked (Wait place max millis) =
    (0 < place) × (place < 2 ^ 32) × (0 < max) × (max ≤ MOST_ENTRIES) × (millis < 2 ^ 16)

-- its payload, if it has one, is within the limit of a message
abbrev pub IsShort : Asked → Type 0
IsShort (Submit client number payload) = length payload ≤ MAX_PAYLOAD
IsShort (Read place max) = Unit {0}
IsShort (Ask control) = Unit {0}
IsShort (Wait place max millis) = Unit {0}

-- the opcode of a request without fields
abbrev pub opcode_of : Control → ℕ
opcode_of Status = ASK_STATUS
opcode_of Crash = ASK_CRASH
opcode_of Restart = ASK_RESTART

-- the only encoding of a request, after its length: the opcode, and the fields in order
abbrev pub request_body : Asked → List ℕ
request_body (Submit client number payload) =
    ASK_SUBMIT ∷ (big_bytes 2 client ++ (big_bytes 4 number ++ payload))
request_body (Read place max) = ASK_READ ∷ (big_bytes 4 place ++ max ∷ [])
request_body (Ask control) = opcode_of control ∷ []
request_body (Wait place max millis) =
    ASK_WAIT ∷ (big_bytes 4 place ++ max ∷ big_bytes 2 millis)

-- after the opcode of a submit: a client, a number, and the rest as the payload
abbrev pub submit_fields : List ℕ → Result Asked ℕ
submit_fields fields =
    if nat_lt (length fields) SUBMIT_HEAD then Err WRONG_LENGTH
    else if big_number 2 fields == 0 then Err BAD_VALUE
    else Ok (Submit (big_number 2 fields) (big_number 4 (drop 2 fields)) (drop SUBMIT_HEAD fields))

-- after the opcode of a read: a place, and the greatest number of entries
abbrev pub read_fields : List ℕ → Result Asked ℕ
read_fields fields =
    if length fields == READ_FIELDS then
    (if big_number 4 fields == 0 then Err BAD_VALUE
    else if slice_index fields 4 == 0 then Err BAD_VALUE
    else if nat_lt MOST_ENTRIES (slice_index fields 4) then Err BAD_VALUE
    else Ok (Read (big_number 4 fields) (slice_index fields 4)))
    else Err WRONG_LENGTH

-- after the opcode of a wait: a place, the greatest number of entries, and milliseconds
abbrev pub wait_fields : List ℕ → Result Asked ℕ
wait_fields fields =
    if length fields == WAIT_FIELDS then
    (if big_number 4 fields == 0 then Err BAD_VALUE
    else if slice_index fields 4 == 0 then Err BAD_VALUE
    else if nat_lt MOST_ENTRIES (slice_index fields 4) then Err BAD_VALUE
    else Ok (Wait (big_number 4 fields) (slice_index fields 4) (big_number 2 (drop 5 fields))))
    else Err WRONG_LENGTH

-- the request without fields that has this opcode, if any has
abbrev pub control_of : ℕ → Option Control
control_of opcode =
    if opcode == ASK_STATUS then Some Status
    else if opcode == ASK_CRASH then Some Crash
    else if opcode == ASK_RESTART then Some Restart
    else None

-- a request without fields, if there is one, and nothing after its opcode
abbrev pub no_fields : Option Control → List ℕ → Result Asked ℕ
no_fields None fields = Err UNKNOWN_OPCODE
no_fields (Some control) fields =
    if length fields == 0 then Ok (Ask control) else Err WRONG_LENGTH

-- what an opcode says that no request with fields has, with the bytes after it
abbrev pub control_fields : ℕ → List ℕ → Result Asked ℕ
control_fields opcode fields = no_fields (control_of opcode) fields

-- the request that bytes are, or the code of their first fault
abbrev pub request_of : List ℕ → Result Asked ℕ
request_of [] = Err UNKNOWN_OPCODE
request_of (opcode ∷ fields) =
    if opcode == ASK_SUBMIT then submit_fields fields
    else if opcode == ASK_READ then read_fields fields
    else if opcode == ASK_WAIT then wait_fields fields
    else control_fields opcode fields

-- the request is a submit, the only request that takes memory
abbrev pub IsSubmit : Result Asked ℕ → Type 0
IsSubmit read =
    (client number : ℕ) × (payload : List ℕ) × (read ≡ Ok (Submit client number payload))

-- A refusal of bytes with this reading: the code of their fault, or no memory for the payload of a
-- submit.
abbrev pub Refuses : Refusal → Result Asked ℕ → Type 0
Refuses refusal read =
    ((code : ℕ) × (refusal ≡ Frame code) × (read ≡ Err code))
    ⊎ ((refusal ≡ NoMemory) × IsSubmit read)

-- what a call returned is what reading gives, if no memory was refused
abbrev pub Gives : {X : Type 0} → (X → Asked) → Result X Refusal → Result Asked ℕ → Type 0
Gives view (Ok x) read = read ≡ Ok (view x)
Gives view (Err refusal) read = Refuses refusal read
