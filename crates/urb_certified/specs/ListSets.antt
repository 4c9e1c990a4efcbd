-- The set that a list makes, as a list in rising order.
use Rattle.std.specs.Prelude.{Bool, if◌then◌else◌, List, [], ◌∷◌}
use Rattle.std.specs.List.{list_any}
use Rattle.urb_names.specs.RisingLists.{placed}

-- the elements of the list, each once, in rising order
abbrev pub set_of : {X : Type 0} → (X → X → Bool) → (X → X → Bool) → List X → List X
set_of before same [] = []
set_of before same (x ∷ xs) =
    if list_any (λ y. same y x) (set_of before same xs) then set_of before same xs
    else placed before (set_of before same xs) x
