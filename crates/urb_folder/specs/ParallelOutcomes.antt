-- The results of opening several things in parallel: each is a value or a fault.
use Rattle.std.specs.Prelude.{Err, List, Ok, Result, ◌++◌, ◌∷◌, ◌≡◌}
use Rattle.std.specs.List.{All}

-- one of them is a value
abbrev pub IsOpen : {J E : Type 0} → Result J E → Type 0
IsOpen (Ok it) = Unit {0}
IsOpen (Err fault) = ⊥

-- the first fault among these is this one
pub record FailsFirst {J E : Type 0} (outcomes : List (Result J E)) (fault : E) : Type 0 where
  pub earlier : List (Result J E)
  pub later : List (Result J E)
  pub were : outcomes ≡ earlier ++ Err fault ∷ later
  pub there : All IsOpen earlier
