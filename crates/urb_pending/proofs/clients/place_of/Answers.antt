use Rattle.std.proofs.Common.{rules, [], false}
use Rattle.std.proofs.lemmas.List.Sorted.{IsPartitionPoint-from_clause}
use Rattle.urb_pending.proofs.ClientRowPlaces.{parted, point_is, stands_before}
use Rattle.urb_pending.proofs.clients.place_of.Goals as goal

pub returns-clause-place : goal.returns-clause-place
returns-clause-place g c =
    let facts = c.partition_point.ensures in
    let rows = c.args.rows.now in
    let client = c.args.client in
    point_is (stands_before client) rows _
    (record { client = 0; given = []; room = false }) facts.bound
    (IsPartitionPoint-from_clause (stands_before client) rows _ facts.partitioned
    (parted rows client c.requires) (λ a r f' k. search rules))
