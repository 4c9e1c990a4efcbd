-- What contracts see of the fields of acknowledgements.
use Rattle.urb_majority.specs.Acks.{AckSet}
use Rattle.urb_majority.specs.declared.acks.Acks.TheInside.{Inside}

-- what contracts see of the fields
abbrev pub view_of : {A : Type 0} → Inside A → AckSet
view_of a = record {
  limits = a.config;
  counted = a.counted.marks;
  certified =
      a.certified.names;
  reserved = a.reserved;
}
