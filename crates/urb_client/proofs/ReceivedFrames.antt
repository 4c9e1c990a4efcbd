-- Whether the front of the input is a response.
use Rattle.urb_client.proofs.Common.{Accepted, Consumes, Done, IfSome}
use Rattle.urb_client.proofs.Common.{IsSaid, List, Listing, None, Option, Refused, Said, Some}
use Rattle.urb_client.proofs.Common.{ap, append_assoc, arith, big_bytes, frame, length, refl}
use Rattle.urb_client.proofs.Common.{response_body, sym, take, ℕ, ◌++◌, ◌<◌, ◌^◌, ◌∙◌, ◌≡◌}
use Rattle.urb_client.proofs.Common.{◌≤◌}
use Rattle.std.proofs.Common.{take_at}
use Rattle.urb_client.specs.Responses.{Status}
use Rattle.urb_client.specs.MissingResponses.{HasNoResponse}
use Rattle.urb_client.specs.internal.MissingFrames.{HasNoFrame}
use Rattle.urb_client.proofs.SingleReading.{one_length}
use Rattle.urb_client.proofs.ResponseLimits.{said_fits}

-- a length that was read whole
pub record Headed (bytes : List ℕ) (got n : ℕ) : Type 0 where
  -- a length takes two bytes
  pub two : length bytes ≡ 2
  -- at most two bytes are read
  pub within : got ≤ 2
  -- at least two bytes are read
  pub enough : 2 ≤ got
  -- the two bytes are the number
  pub says : bytes ≡ big_bytes 2 n
  -- the number fits in two bytes
  pub below : n < 2 ^ 16

some_bytes : (said : Said) → 0 < length (response_body said)
some_bytes (Accepted seq) = omega arith
some_bytes (Listing entries) = omega arith
some_bytes (Status state own logged) = omega arith
some_bytes Done = omega arith
some_bytes (Refused number detail) = omega arith

below : (said : Said) → IsSaid said → length (response_body said) < 2 ^ 16
below said is = omega (arith, said_fits said is)

-- an input that begins with no frame begins with no response
pub no_response : (known : Option (List ℕ)) → IfSome known HasNoFrame → IfSome known HasNoResponse
no_response None h = tt
no_response (Some all) h =
    λ said rest is same. h (response_body said) rest (some_bytes said) (below said is) same

-- an input that begins with a frame of other bytes than a response's begins with no response
pub another_frame : (known left : Option (List ℕ)) (body : List ℕ)
    → Consumes known left (frame body) → length body < 2 ^ 16
    → ((said : Said) → IsSaid said → body ≡ response_body said → ⊥) → IfSome known HasNoResponse
another_frame None left body c small none = tt
another_frame (Some all) None body c small none = absurd c
another_frame (Some all) (Some rest) body c small none = λ said behind is same.
    let one =
    one_length (length body) (length (response_body said)) (body ++ rest)
    (response_body said ++ behind) all small (below said is)
    (c ∙ append_assoc (big_bytes 2 (length body)) body rest)
    (same ∙ append_assoc (big_bytes 2 (length (response_body said)))
    (response_body said) behind) in
    none said is (sym (take_at body rest (length body) refl) ∙ ap (take (length body)) one.1
    ∙ take_at (response_body said) behind (length body) (sym one.0))
