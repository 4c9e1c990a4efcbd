-- Lists in rising order, and space reserved for one name.
use Rattle.std.specs.Prelude.{Bool, true, ◌&&◌, if◌then◌else◌, List, [], ◌∷◌, insert, Option, Some}
use Rattle.std.specs.Prelude.{None}
use Rattle.std.specs.List.{list_all, prefix_len}
use Rattle.urb_names.specs.LabelsAndContents.{Label}
use Rattle.urb_names.specs.Names.{same_name}

-- whether each element comes before all later ones
abbrev pub is_rising : {X : Type 0} → (X → X → Bool) → List X → Bool
is_rising before [] = true
is_rising before (x ∷ xs) = list_all (before x) xs && is_rising before xs

-- the list with one more element, put after all elements at its front that come before it
abbrev pub placed : {X : Type 0} → (X → X → Bool) → List X → X → List X
placed before xs x = insert xs (prefix_len (λ y. before y x) xs) x

-- the reservation left once this name has been added: space for any other name is no longer
-- promised
abbrev pub reserved_for : Option Label → Label → Option Label
reserved_for None x = None
reserved_for (Some y) x = if same_name y x then Some y else None
