-- What contracts see of the fields of certified names.
use Rattle.std.specs.Prelude.{nat_lt}
use Rattle.std.specs.Vec.{vec_len, vec_capacity}
use Rattle.urb_names.specs.Names.{name_lt, same_name}
use Rattle.urb_certified.specs.ListSets.{set_of}
use Rattle.urb_certified.specs.Certificates.{Certificates}
use Rattle.urb_certified.specs.Parts.{all_names}
use Rattle.urb_certified.specs.declared.certified.Certified.TheInside.{Inside}

-- the names of both parts in order, and whether the upper part has space
abbrev pub view_of : {A : Type 0} → Inside A → Certificates
view_of a = record {
  names = set_of name_lt same_name (all_names a.low a.above.items);
  room =
      nat_lt (vec_len a.above) (vec_capacity a.above);
}
