-- The order of names.
use Rattle.urb_certified.proofs.Common.{IsOrder, name_lt, same_name, same_name-same, same_name-true}
use Rattle.urb_names.proofs.RisingPairs.{name_lt-one_way, name_lt-strict, name_lt-trans}

-- the order of names meets the laws of a strict order
pub names_in_order : IsOrder name_lt same_name
names_in_order = record {
  transitive = name_lt-trans;
  one_way = name_lt-one_way;
  strict = name_lt-strict;
  equal = same_name-true;
  itself = same_name-same;
}
