-- The invariant of the fields of certified names.
use Rattle.urb_certified.specs.internal.PartInvariant.{IsParts}
use Rattle.urb_certified.specs.declared.certified.Certified.TheInside.{Inside}

-- the fields are the two parts of a set
abbrev pub IsKept : {A : Type 0} → Inside A → Type 0
IsKept a = IsParts a.low a.above.items
