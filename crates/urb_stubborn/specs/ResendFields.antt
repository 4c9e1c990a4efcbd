-- What contracts see of the fields of a node's resends.
use Rattle.urb_stubborn.specs.Resends.{Resending}
use Rattle.urb_stubborn.specs.declared.resend.Resend.TheInside.{Inside}

-- what contracts see of the fields
abbrev pub view_of : {A : Type 0} → Inside A → Resending
view_of a = record {
  limits = a.config;
  node = a.node;
  cursor = a.cursor;
  heard =
      a.heard.marks;
  roomy = a.heard.roomy;
}
