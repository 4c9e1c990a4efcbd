use Rattle.std.proofs.Common.{arith}
use Rattle.urb_foresight.proofs.CountedRecords.{count-all, count-next}
use Rattle.urb_foresight.proofs.foresight.count_own.Goals as goal

pub loop-entry-preserved : goal.loop-entry-preserved
loop-entry-preserved g c =
    record {
      all =
          count-next c.args.node c.args.records.now c.loop-entry.entry-index c.entry-item.result
          c.loop-entry.count c.count_one-count.result c.loop-entry-test.true c.entry-item.is
          c.count_one-count.ensures.own c.loop-entry.invariant.all;
      few = omega (arith, c.loop-entry.invariant.few, c.count_one-count.ensures.most);
    }

pub returns-clause-value : goal.returns-clause-value
returns-clause-value g c =
    count-all c.args.node c.args.records.now c.loop-entry.entry-index c.loop-entry.count
    c.loop-entry-test.false c.loop-entry.invariant.all
