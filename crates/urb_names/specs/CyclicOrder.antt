-- Cyclic order of names: from a cursor to the last name, then on from the first.
use Rattle.std.specs.Prelude.{Bool, true, not, if◌then◌else◌, List, [], ◌∷◌, ◌++◌, filter, take}
use Rattle.std.specs.Prelude.{Option, Some, None}
use Rattle.urb_names.specs.declared.limits.TheConstants.{NAMES_PER_TICK}
use Rattle.urb_names.specs.LabelsAndContents.{Label, Content}
use Rattle.urb_names.specs.Names.{name_lt}
use Rattle.urb_names.specs.RisingLists.{is_rising}

-- whether the pairs are in strictly rising order of their names
abbrev pub are_rising : List (Label × Content) → Bool
are_rising pairs = is_rising (λ pair later. name_lt pair.0 later.0) pairs

-- the pairs with one more, put before the first pair with a greater name
abbrev pub inserted : Label × Content → List (Label × Content) → List (Label × Content)
inserted pair [] = pair ∷ []
inserted pair (next ∷ rest) =
    if name_lt next.0 pair.0 then next ∷ inserted pair rest else pair ∷ next ∷ rest

-- the pairs sorted by name
abbrev pub rising : List (Label × Content) → List (Label × Content)
rising [] = []
rising (pair ∷ pairs) = inserted pair (rising pairs)

-- whether the name comes after the cursor; without a cursor every name does
abbrev pub is_after : Option Label → Label → Bool
is_after None x = true
is_after (Some cursor) x = name_lt cursor x

-- the pairs in cyclic order: those after the cursor come first
abbrev pub cyclic : Option Label → List (Label × Content) → List (Label × Content)
cyclic cursor pairs =
    filter (λ pair. is_after cursor pair.0) pairs ++ filter
    (λ pair. not (is_after cursor pair.0)) pairs

-- the name of the last pair, or the cursor if there are no pairs
abbrev pub last_name : Option Label → List (Label × Content) → Option Label
last_name cursor [] = cursor
last_name cursor (pair ∷ pairs) = last_name (Some pair.0) pairs

-- the pairs that a tick resends: the first NAMES_PER_TICK in cyclic order, or all if there are
-- fewer
abbrev pub resent : Option Label → List (Label × Content) → List (Label × Content)
resent cursor pairs = take NAMES_PER_TICK (cyclic cursor pairs)
