-- How a session reads a frame in pieces, and what its parts answer.
use Rattle.std.specs.Prelude.{◌≡◌, ℕ, ◌<◌, ◌≤◌, ◌⊎◌, List, [], length, take, Option}
use Rattle.std.specs.Prelude.{IfSome, IsSomeAnd, Result, Ok, Err, ⊤}
use Rattle.std.specs.Io.KnownBytes.{Consumes, IsAtEnd}
use Rattle.urb_client.specs.declared.sessions.Piece.{Piece}
use Rattle.urb_client.specs.declared.sessions.SessionFault.{SessionFault}
use Rattle.urb_client.specs.declared.sessions.SessionFault.TheVariants as fault
use Rattle.urb_client.specs.declared.sessions.Piece.TheVariants.{End, Broken, Whole}
use Rattle.urb_client.specs.declared.format.TheConstants.{LONGEST_REQUEST}
use Rattle.urb_client.specs.Requests.{Asked}
use Rattle.urb_client.specs.Responses.{Said, Refused, frame}
use Rattle.urb_client.specs.Sessions.{IsBroken, TakesPart}

-- the answer to one frame: the desk's answer, or the refusal
abbrev pub Answers : {S : Type 0} → (S → Asked → Said → S → Type 0) → S → Result Asked ℕ → Said → S
    → Type 0
Answers {S} answers old (Ok asked) said new = answers old asked said new
Answers {S} answers old (Err code) said new = (said ≡ Refused 19 code) × (new ≡ old)

-- A frame that was read is not answered, since memory was refused. The desk is as it was, or, if
-- the frame is a request, as the refused memory left it.
abbrev pub GoesUnanswered : {S : Type 0} → (S → Asked → S → Type 0) → S → Result Asked ℕ → S
    → Type 0
GoesUnanswered {S} refuses old (Ok asked) new = (new ≡ old) ⊎ refuses old asked new
GoesUnanswered {S} refuses old (Err code) new = new ≡ old

-- What is read from the front of the known bytes, into the body: nothing at their end, a broken
-- frame, or a whole one.
abbrev pub ReadsPiece : Option (List ℕ) → Option (List ℕ) → List ℕ → Piece → Type 0
ReadsPiece known left body End = Consumes known left [] × IsAtEnd left
ReadsPiece known left body (Broken code) =
    IfSome known (λ bytes. IsSomeAnd left (IsBroken bytes code))
ReadsPiece known left body (Whole n) =
    (0 < n) × (n ≤ LONGEST_REQUEST) × Consumes known left (frame (take n body))

-- fewer than n bytes are read
abbrev pub ReadsUnder : ℕ → Option (List ℕ) → Option (List ℕ) → Type 0
ReadsUnder n known left = (part : List ℕ) × Consumes known left part × (length part < n)

-- less than a frame is read from the front of the known bytes
abbrev pub PartRead : Option (List ℕ) → Option (List ℕ) → Type 0
PartRead known left = IfSome known (λ bytes. IsSomeAnd left (TakesPart bytes))

-- Why an answer isn't written, and the writer before and after. A write failed. Or memory was
-- refused, and the writer is as it was.
abbrev pub GoesUnwritten : {W : Type 0} → SessionFault → W → W → Type 0
GoesUnwritten {W} (fault.Write why) old new = ⊤
GoesUnwritten {W} (fault.NoMemory why) old new = new ≡ old
GoesUnwritten {W} (fault.Read why) old new = ⊥
GoesUnwritten {W} fault.TooMany old new = ⊥
