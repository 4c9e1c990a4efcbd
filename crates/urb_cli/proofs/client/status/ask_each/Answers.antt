use Rattle.urb_cli.proofs.Common.{address_of, rules}
use Rattle.urb_cli.proofs.NodeStatuses.{one_more_node}
use Rattle.urb_cli.proofs.client.status.ask_each.Goals as goal

pub loop-node-preserved : goal.loop-node-preserved
loop-node-preserved g c = record {
  each =
      one_more_node g.A.Asker.answers (address_of c.args.asking.at) c.args.asker.now
      c.loop-node.asker c.ask_node.new.asker c.loop-node.node c.loop-node.status
      c.ask_node.result c.worse-status.result c.loop-node.invariant.each
      (rw c.find_node-at.ensures at c.ask_node.ensures.status) c.worse-status.ensures;
  end = search rules;
}
