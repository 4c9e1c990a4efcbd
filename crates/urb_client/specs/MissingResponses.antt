-- When no response came to a client.
use Rattle.std.specs.Prelude.{◌≡◌, ℕ, List, ◌++◌}
use Rattle.urb_client.specs.Responses.{Said, IsSaid, encoding}

-- the bytes begin with no response
abbrev pub HasNoResponse : List ℕ → Type 0
HasNoResponse input =
    (said : Said) (rest : List ℕ) → IsSaid said → input ≡ encoding said ++ rest → ⊥
