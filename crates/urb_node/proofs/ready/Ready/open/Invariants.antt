use Rattle.urb_node.proofs.ReadRecords.{HasRead}
use Rattle.urb_node.proofs.ready.Ready.open.Given as goal

abbrev pub invariant-loop-record : goal.invariant-loop-record
invariant-loop-record g l =
    HasRead l.fn.config l.fn.node l.fn.records.items l.yielded l.record-iterator.rest.items l.held
