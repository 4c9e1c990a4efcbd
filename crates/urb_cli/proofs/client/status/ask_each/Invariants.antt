use Rattle.urb_cli.proofs.Common.{AsksEach, address_of}
use Rattle.urb_cli.specs.Statuses.{IsClientsEnd}
use Rattle.urb_cli.proofs.client.status.ask_each.Given as goal

-- the nodes so far were asked, and the calls ended as a client's command does
abbrev pub invariant-loop-node : goal.invariant-loop-node
invariant-loop-node g l = record {
  each : AsksEach g.A.Asker.answers (address_of l.asking.at) l.fn.asker l.node l.status l.asker;
  end : IsClientsEnd l.status;
}
