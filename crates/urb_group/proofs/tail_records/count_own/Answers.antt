use Rattle.std.proofs.Common.{arith}
use Rattle.urb_group.proofs.tails.TailRecords.{client-all, client-counted, own-all, own-counted}
use Rattle.urb_group.proofs.tail_records.count_own.Goals as goal

pub loop-entry-preserved : goal.loop-entry-preserved
loop-entry-preserved g c =
    record {
      all =
          own-counted c.args.node c.args.records.now c.loop-entry.entry-index c.entry-item.result
          c.loop-entry.own c.count_one-one.result.0 _ c.loop-entry-test.true c.entry-item.is
          c.count_one-one.ensures.own c.loop-entry.invariant.all;
      ours =
          client-counted c.args.node c.args.client c.args.records.now c.loop-entry.entry-index
          c.entry-item.result c.loop-entry.of_client c.count_one-one.result.1 _
          c.loop-entry-test.true c.entry-item.is c.count_one-one.ensures.of_client c.loop-entry.invariant.ours;
      few = omega (arith, c.loop-entry.invariant.few, c.count_one-one.ensures.most.0);
      fewer = omega (arith, c.loop-entry.invariant.fewer, c.count_one-one.ensures.most.1);
    }

pub returns-clause-own : goal.returns-clause-own
returns-clause-own g c =
    own-all c.args.node c.args.records.now c.loop-entry.entry-index c.loop-entry.own _
    c.loop-entry-test.false c.loop-entry.invariant.all

pub returns-clause-of_client : goal.returns-clause-of_client
returns-clause-of_client g c =
    client-all c.args.node c.args.client c.args.records.now c.loop-entry.entry-index
    c.loop-entry.of_client _ c.loop-entry-test.false c.loop-entry.invariant.ours
