-- What is opened at several places: all of it, or everything up to the first fault. Each place has
-- its possible outcomes.
use Rattle.std.specs.Prelude.{Err, List, MatchResult, Ok, Result, Some, length, slice_get, suc, ℕ}
use Rattle.std.specs.Prelude.{◌<◌, ◌≡◌, ◌≤◌, ◌⊎◌}
use Rattle.urb_names.specs.declared.limits.TheConstants.{MAX_NODES}

-- the claims of the first nodes, as many as this number, were given, or those of all nodes
abbrev pub IsGiven : ℕ → ℕ → Type 0
IsGiven count given = (given ≡ count) ⊎ (MAX_NODES ≤ given)

module _ {J E : Type 0} (opens : ℕ → Result J E → Type 0) where
  -- at this place there is an outcome of opening what belongs there, or still its node's claim
  abbrev pub IsFoundAt : ℕ → Result (Result J E) ℕ → Type 0
  IsFoundAt place it = MatchResult it (opens place) (λ claim. claim ≡ suc place)

  -- the same at each place
  abbrev pub AreFound : List (Result (Result J E) ℕ) → Type 0
  AreFound found =
      (place : ℕ) (it : _) → slice_get found place ≡ Some it → IsFoundAt place it

  -- `count` of them were opened, each at its place
  pub record AreOpened (count : ℕ) (all : List J) : Type 0 where
    pub whole : length all ≡ count
    pub each : (place : ℕ) (it : J) → slice_get all place ≡ Some it → opens place (Ok it)

  -- these first places were opened, and the next one, which is also one of `count`, has this fault
  pub record FailsAfter (count : ℕ) (earlier : List J) (fault : E) : Type 0 where
    pub opened : AreOpened (length earlier) earlier
    pub within : length earlier < count
    pub fails : opens (length earlier) (Err fault)
