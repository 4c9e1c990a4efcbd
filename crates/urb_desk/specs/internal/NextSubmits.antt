-- The submits that a client has sent next, in the bytes that its session hasn't read yet.
use Rattle.std.specs.Prelude.{Bool, IsTrue, List, [], false, length, nat_le, ℕ, ◌++◌, ◌∷◌, ◌≡◌}
use Rattle.urb_names.specs.declared.limits.TheConstants.{MAX_PAYLOAD}
use Rattle.urb_client.specs.Requests.{Asked, Submit, request_body}
use Rattle.urb_client.specs.Responses.{frame}

-- whether a request is a submit with a payload within the limit of a message
abbrev pub is_short_submit : Asked → Bool
is_short_submit (Submit client number payload) = nat_le (length payload) MAX_PAYLOAD
is_short_submit asked = false

-- these bytes are the frame of such a submit, with the rest behind it
pub record BeginsWith (bytes : List ℕ) (asked : Asked) (rest : List ℕ) : Type 0 where
  pub short : IsTrue (is_short_submit asked)
  pub front : bytes ≡ frame (request_body asked) ++ rest

-- the bytes begin with the frames of these submits, one behind the other
abbrev pub AreNext : List ℕ → List Asked → Type 0
AreNext bytes [] = Unit {0}
AreNext bytes (asked ∷ later) =
    (rest : List ℕ) × BeginsWith bytes asked rest × AreNext rest later
