use Rattle.urb_group.proofs.Common.{MAX_NODES, add-one, arith, new_memory, rules, ◌+◌, ◌≡◌, ◌≤◌}
use Rattle.urb_stable.proofs.FirstMisfits.{node-is}
use Rattle.urb_group.proofs.moves.NewPlaces.{first-group, first-shows, next-places, some_from}
use Rattle.urb_group.proofs.group.Group.new.Goals as goal

-- a number up to the group's is a node's
pub unwrap-node-requires : goal.unwrap-node-requires
unwrap-node-requires g c =
    let below : c.loop-at.at + 1 ≤ MAX_NODES =
    omega (arith, c.loop-at-test.true, c.n-n.ensures.value, c.n-n.ensures.range.1) in
    some_from c.new.result _ c.new.ensures (omega arith, below)

-- each of these numbers is a node's of the group
pub new-requires-in-loop-at : goal.new-requires-in-loop-at
new-requires-in-loop-at g c =
    let number : c.unwrap-node.result ≡ c.loop-at.at + 1 =
    node-is _ c.new.result c.unwrap-node.result
    (c.loop-at.at + 1) c.new.ensures c.unwrap-node.ensures in
    omega (arith, number, c.loop-at-test.true, c.n-n.ensures.value)

pub loop-at-preserved : goal.loop-at-preserved
loop-at-preserved g c =
    let now = c.push_reserved.ensures in
    let made : c.in_ok-ready.ready ≡ new_memory c.args.config (c.loop-at.at + 1) = search rules in
    record {
      nodes =
          rw add-one (next-places _ c.args.config c.loop-at.at _ _ _ c.loop-at.invariant.nodes
          (rw add-one at made) now.items);
      count = omega (arith, now.len, c.loop-at.invariant.count);
      room = omega (arith, now.capacity, c.loop-at.invariant.room);
    }

-- the loop has made them all
pub invariant_of-result : goal.invariant_of-result
invariant_of-result g c =
    let all : c.loop-at.at ≡ c.args.config.n =
    omega (arith, c.loop-at.auto.at-end, c.loop-at-test.false, c.n-n.ensures.value) in
    rw (c.loop-at.invariant.nodes, all) (first-group _ c.args.config)

pub returns : goal.returns
returns g c =
    let all : c.loop-at.at ≡ c.args.config.n =
    omega (arith, c.loop-at.auto.at-end, c.loop-at-test.false, c.n-n.ensures.value) in
    rw (c.loop-at.invariant.nodes, all) (first-shows _ c.args.config)
