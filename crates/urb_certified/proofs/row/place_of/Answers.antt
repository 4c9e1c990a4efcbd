use Rattle.urb_certified.proofs.Common.{name_lt, rules, same_name}
use Rattle.std.proofs.lemmas.List.Sorted.{IsPartitionPoint-from_clause}
use Rattle.urb_certified.proofs.NameOrder.{names_in_order}
use Rattle.urb_certified.proofs.BinarySearches.{parted, point_is}
use Rattle.urb_certified.proofs.row.place_of.Goals as goal

pub returns-clause-place : goal.returns-clause-place
returns-clause-place c =
    let facts = c.partition_point.ensures in
    let names = c.args.names.now in
    let x = c.args.name in
    point_is name_lt same_name names_in_order (λ other. name_lt other x) names _ x facts.bound
    (IsPartitionPoint-from_clause (λ other. name_lt other x) names _ facts.partitioned
    (parted name_lt same_name names_in_order names x c.requires) (λ a r f' k. search rules))
