-- What a session reads and writes.
use Rattle.std.specs.Prelude.{◌≡◌, ℕ, ◌<◌, ◌≤◌, ◌^◌, ◌⊎◌, List, [], ◌∷◌, ◌++◌, length, Option}
use Rattle.std.specs.Prelude.{Ok, Err}
use Rattle.std.specs.Io.KnownBytes.{Appends}
use Rattle.byteorder.specs.Endian.{big_bytes}
use Rattle.urb_client.specs.declared.sessions.Ended.{Ended}
use Rattle.urb_client.specs.declared.sessions.Ended.TheVariants.{Closed, BadFrame}
use Rattle.urb_client.specs.declared.sessions.SessionFault.{SessionFault}
use Rattle.urb_client.specs.declared.sessions.SessionFault.TheVariants as fault
use Rattle.urb_client.specs.declared.sessions.TheConstants.{MOST_FRAMES}
use Rattle.urb_client.specs.declared.format.TheConstants.{LONGEST_REQUEST, BAD_LENGTH, CUT}
use Rattle.urb_client.specs.Requests.{Asked, request_of}
use Rattle.urb_client.specs.Responses.{Said, Refused, encoding, frame}

-- what a frame is: a request, or a fault, by its code
pub data Event : Type 0 where
  Asks : Asked → Event
  Fault : ℕ → Event

-- the bytes of a frame, after its length, are this
abbrev pub Says : List ℕ → Event → Type 0
Says body (Asks asked) = request_of body ≡ Ok asked
Says body (Fault code) = request_of body ≡ Err code

-- The bytes begin with whole frames that say this, and the rest follows them. No frame is empty or
-- too long.
abbrev pub Begins : List ℕ → List Event → List ℕ → Type 0
Begins bytes [] rest = bytes ≡ rest
Begins bytes (event ∷ events) rest =
    (body : List ℕ) × (mid : List ℕ) × (0 < length body) × (length body ≤ LONGEST_REQUEST)
    × (bytes ≡ frame body ++ mid) × Says body event × Begins mid events rest

-- the bytes begin with a length of 0, or over that of the longest request, and the rest follows it
abbrev pub HasBadLength : List ℕ → List ℕ → Type 0
HasBadLength bytes rest =
    (n : ℕ) × (bytes ≡ big_bytes 2 n ++ rest) × (n < 2 ^ 16) × ((n ≡ 0) ⊎ (LONGEST_REQUEST < n))

-- the bytes begin a frame: at least one byte of it, and not all of it
abbrev pub IsCut : List ℕ → Type 0
IsCut bytes =
    (length bytes ≡ 1) ⊎ ((n : ℕ) × (more : List ℕ) × (bytes ≡ big_bytes 2 n ++ more) × (0 < n)
    × (n ≤ LONGEST_REQUEST) × (length more < n))

-- The bytes don't begin with a frame, and this is the code of the fault. Either they begin with a
-- bad length, and the rest follows it. Or they end inside a frame, and nothing is left.
abbrev pub IsBroken : List ℕ → ℕ → List ℕ → Type 0
IsBroken bytes code rest =
    (HasBadLength bytes rest × (code ≡ BAD_LENGTH)) ⊎ (IsCut bytes × (rest ≡ []) × (code ≡ CUT))

-- How bytes end a session, the faults in them, and what is left: nothing if the session is closed,
-- or a broken frame.
abbrev pub Ends : List ℕ → Ended → List Event → List ℕ → Type 0
Ends bytes Closed events rest = (bytes ≡ []) × (events ≡ []) × (rest ≡ [])
Ends bytes BadFrame events rest = (code : ℕ) × IsBroken bytes code rest × (events ≡ Fault code ∷ [])

-- Everything that the input says: requests and faults in order, how it ends, and what is left after
-- a bad length.
pub record Reads (input : List ℕ) (ended : Ended) (events : List Event)
    (left : List ℕ) : Type 0 where
  pub whole : List Event
  pub last : List Event
  pub rest : List ℕ
  pub begins : Begins input whole rest
  pub ends : Ends rest ended last left
  pub all : events ≡ whole ++ last

-- no input says two different things
abbrev pub IsReadOnce : Type 0
IsReadOnce =
    (input : List ℕ) (ended other : Ended) (events others : List Event) (left rest : List ℕ)
    → Reads input ended events left → Reads input other others rest
    → (ended ≡ other) × (events ≡ others) × (left ≡ rest)

-- A desk that answers by this relation may answer these events with these bytes, and goes from the
-- old state to the new one. A fault is refused with its code, and the desk doesn't see it.
abbrev pub Replies : {S : Type 0} → (S → Asked → Said → S → Type 0) → S → List Event → List ℕ → S
    → Type 0
Replies {S} answers old [] output new = (output ≡ []) × (new ≡ old)
Replies {S} answers old (Asks asked ∷ events) output new =
    (said : Said) × (mid : S) × (rest : List ℕ) × answers old asked said mid
    × (output ≡ encoding said ++ rest) × Replies answers mid events rest new
Replies {S} answers old (Fault code ∷ events) output new =
    (rest : List ℕ) × (output ≡ encoding (Refused 19 code) ++ rest)
    × Replies answers old events rest new

-- A session from its first byte to its end. Everything that the input says is answered, and the
-- answers are written. `left` is what the reader still has.
pub record WholeSession {S : Type 0} (answers : S → Asked → Said → S → Type 0) (input : List ℕ)
    (ended : Ended) (left : List ℕ) (old new : S) (before after : Option (List ℕ)) : Type 0 where
  pub events : List Event
  pub output : List ℕ
  pub reads : Reads input ended events left
  pub replies : Replies answers old events output new
  pub written : Appends before after output

-- the frames before the rest are answered, and their answers are written
pub record Served {S : Type 0} (answers : S → Asked → Said → S → Type 0) (input rest : List ℕ)
    (old new : S) (before after : Option (List ℕ)) : Type 0 where
  pub events : List Event
  pub output : List ℕ
  pub begins : Begins input events rest
  pub replies : Replies answers old events output new
  pub written : Appends before after output

-- What one frame leaves of a desk if memory was refused before its answer was written. The desk is
-- as it was; or, if the frame is a request, it is as its answer or as the refused memory left it.
abbrev pub Leaves : {S : Type 0} → (S → Asked → Said → S → Type 0) → (S → Asked → S → Type 0) → S
    → Event → S → Type 0
Leaves {S} answers refuses old (Asks asked) new =
    (new ≡ old) ⊎ (((said : Said) × answers old asked said new) ⊎ refuses old asked new)
Leaves {S} answers refuses old (Fault code) new = new ≡ old

-- What one frame leaves of a desk if its answer was made and not written: the desk as its answer
-- left it. The desk doesn't see a fault.
abbrev pub Meets : {S : Type 0} → (S → Asked → Said → S → Type 0) → S → Event → S → Type 0
Meets {S} answers old (Asks asked) new = (said : Said) × answers old asked said new
Meets {S} answers old (Fault code) new = new ≡ old

-- one frame, whole or broken, is taken from the front, and this holds for it
abbrev pub TakesFrame : (Event → Type 0) → List ℕ → List ℕ → Type 0
TakesFrame P bytes rest =
    ((event : Event) × Begins bytes (event ∷ []) rest × P event)
    ⊎ ((code : ℕ) × IsBroken bytes code rest × P (Fault code))

-- less than a frame is taken from the front
abbrev pub TakesPart : List ℕ → List ℕ → Type 0
TakesPart bytes rest = (part : List ℕ) × (bytes ≡ part ++ rest) × ((part ≡ []) ⊎ IsCut part)

-- A session that broke off, with what the reader has left, and the desk. After a failed read, all
-- frames that were read whole are answered. Without memory, all frames but the last one that was
-- read are answered. The desk is as the last frame leaves it, answered or not. After a failed
-- write, the desk has answered every request that was read whole, the last one too. This doesn't
-- speak of the output. After the most frames of a session, all of them are answered.
abbrev pub BreaksOff : {S : Type 0} → (S → Asked → Said → S → Type 0) → (S → Asked → S → Type 0)
    → List ℕ → SessionFault → List ℕ → S → S → Option (List ℕ) → Option (List ℕ) → Type 0
BreaksOff {S} answers refuses input (fault.Read why) left old new before after =
    (rest : List ℕ) × Served answers input rest old new before after × TakesPart rest left
BreaksOff {S} answers refuses input (fault.NoMemory why) left old new before after =
    (rest : List ℕ) × (mid : S) × Served answers input rest old mid before after
    × TakesFrame (λ event. Leaves answers refuses mid event new) rest left
BreaksOff {S} answers refuses input (fault.Write why) left old new before after =
    (rest : List ℕ) × (mid : S) × (events : List Event) × (output : List ℕ)
    × Begins input events rest × Replies answers old events output mid
    × TakesFrame (λ event. Meets answers mid event new) rest left
BreaksOff {S} answers refuses input fault.TooMany left old new before after =
    (served : Served answers input left old new before after)
    × (length served.events ≡ MOST_FRAMES)
