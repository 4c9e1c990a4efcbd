-- When no frame came to a client.
use Rattle.std.specs.Prelude.{◌≡◌, ℕ, ◌<◌, ◌^◌, List, ◌++◌, length}
use Rattle.urb_client.specs.Responses.{frame}

-- the bytes begin with no whole frame of one byte or more
abbrev pub HasNoFrame : List ℕ → Type 0
HasNoFrame input =
    (body rest : List ℕ) → 0 < length body → length body < 2 ^ 16 → input ≡ frame body ++ rest → ⊥
