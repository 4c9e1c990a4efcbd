use Rattle.std.proofs.Common.{arith}
use Rattle.urb_client.proofs.ResponseLimits.{entries_more, entries_all}
use Rattle.urb_client.proofs.response.recall_entries.Goals as goal

pub loop-name-preserved : goal.loop-name-preserved
loop-name-preserved g c =
    entries_more c.args.entries.now c.loop-name.name-index c.loop-name-item.result
    c.loop-name-test.true c.loop-name-item.is
    (c.recall.ensures, c.recall-in-loop-name.ensures) c.loop-name.invariant

pub returns : goal.returns
returns g c =
    entries_all c.args.entries.now c.loop-name.name-index (omega arith) c.loop-name.invariant
