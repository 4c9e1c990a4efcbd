-- The bytes of a response's frame.
use Rattle.std.specs.Prelude.{◌≡◌, ℕ, ◌<◌, ◌≤◌, ◌^◌, List, [], ◌∷◌, ◌++◌, length}
use Rattle.std.specs.List.{AllByRecursion}
use Rattle.byteorder.specs.Endian.{big_bytes}
use Rattle.urb_names.specs.LabelsAndContents.{Label, Content}
use Rattle.urb_client.specs.Listings.{IsEntry, listing_body}
use Rattle.urb_client.specs.declared.response.NodeState.{NodeState}
use Rattle.urb_client.specs.declared.response.NodeState.TheVariants.{Down, Ready, Storing}
use Rattle.urb_client.specs.declared.response.Response.{Response}
use Rattle.urb_client.specs.declared.response.Response.TheVariants as code
use Rattle.urb_client.specs.declared.format.TheConstants.{LONGEST_FRAME, MOST_ENTRIES, SAY_ACCEPTED}
use Rattle.urb_client.specs.declared.format.TheConstants.{SAY_ENTRIES, SAY_STATUS, SAY_DONE}
use Rattle.urb_client.specs.declared.format.TheConstants.{SAY_REFUSED}

-- A response to a client, as contracts see it. It may have the number that a message got, or
-- entries of the log. It may have the node's state, and how many messages the node has sent and
-- logged. Or it says that the request is done, or has a refusal's number and detail.
pub data Said : Type 0 where
  Accepted : ℕ → Said
  Listing : List (Label × Content) → Said
  Status : NodeState → ℕ → ℕ → Said
  Done : Said
  Refused : ℕ → ℕ → Said

-- what a response says
abbrev pub said_by : {A : Type 0} → Response A → Said
said_by (code.Accepted seq) = Accepted seq
said_by (code.Entries entries) = Listing entries
said_by (code.Status state own logged) = Status state own logged
said_by code.Done = Done
said_by (code.Refused number detail) = Refused number detail

-- the byte of a state
abbrev pub state_byte : NodeState → ℕ
state_byte Down = 0
state_byte Ready = 1
state_byte Storing = 2

-- the only encoding of a response, after its length: the opcode, and the fields in order
abbrev pub response_body : Said → List ℕ
response_body (Accepted seq) = SAY_ACCEPTED ∷ big_bytes 4 seq
response_body (Listing entries) = listing_body entries
response_body (Status state own logged) =
    SAY_STATUS ∷ state_byte state ∷ (big_bytes 4 own ++ big_bytes 4 logged)
response_body Done = SAY_DONE ∷ []
response_body (Refused number detail) = SAY_REFUSED ∷ number ∷ big_bytes 4 detail

-- a response's values: numbers that their fields can hold, and at most MOST_ENTRIES entries that a
-- frame
-- has room for
abbrev pub IsSaid : Said → Type 0
IsSaid (Accepted seq) = seq < 2 ^ 32
IsSaid (Listing entries) =
    (length entries ≤ MOST_ENTRIES) × AllByRecursion IsEntry entries
    × (length (listing_body entries) ≤ LONGEST_FRAME)
IsSaid (Status state own logged) = (own < 2 ^ 32) × (logged < 2 ^ 32)
IsSaid Done = Unit {0}
IsSaid (Refused number detail) = (number < 2 ^ 8) × (detail < 2 ^ 32)

-- the bytes begin with the opcode of entries
abbrev pub IsListing : List ℕ → Type 0
IsListing bytes = (rest : List ℕ) × (bytes ≡ SAY_ENTRIES ∷ rest)

-- a frame: a length, and as many bytes
abbrev pub frame : List ℕ → List ℕ
frame body = big_bytes 2 (length body) ++ body

-- the whole frame of a response
abbrev pub encoding : Said → List ℕ
encoding said = frame (response_body said)
