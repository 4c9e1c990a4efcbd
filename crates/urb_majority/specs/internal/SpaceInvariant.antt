-- The invariant of the fields of acknowledgements, and the space that is promised.
use Rattle.std.specs.Prelude.{◌≡◌, true, false, Some}
use Rattle.std.specs.Option.{ForSome}
use Rattle.urb_names.specs.LabelsAndContents.{Label}
use Rattle.urb_names.specs.Names.{has_name}
use Rattle.urb_majority.specs.declared.acks.Acks.TheInside.{Inside}

-- If the name has no mask yet, there is space for one. If it isn't certified yet, there is space
-- for its certificate.
pub record HasRoom {A : Type 0} (a : Inside A) (x : Label) : Type 0 where
  pub counted : has_name a.counted.roomy x ≡ false → a.counted.reserved ≡ Some x
  pub certified : has_name a.certified.names x ≡ false → a.certified.room ≡ true

-- the invariant of the fields: the space that is promised
abbrev pub IsKept : {A : Type 0} → Inside A → Type 0
IsKept a = ForSome a.reserved (HasRoom a)
