use Rattle.std.proofs.Common.{◌≤◌, rules, length, nat_lt}
use Rattle.std.proofs.lemmas.List.Sorted.{IsPartitionPoint-from_clause}
use Rattle.urb_window.proofs.BinarySearches.{parted, point_is}
use Rattle.urb_window.proofs.upper.place_of.Goals as goal

pub returns-clause-place : goal.returns-clause-place
returns-clause-place g c =
    let pairs = c.args.above.now.items in
    let n = c.args.number in
    let facts = c.partition_point.ensures in
    let bound : c.partition_point.result ≤ length pairs = search rules in
    point_is (λ pair. nat_lt pair.0 n) pairs _ bound
    (IsPartitionPoint-from_clause (λ pair. nat_lt pair.0 n) pairs _ facts.partitioned
    (parted 0 pairs n c.requires) (λ a r f' k. search rules))
