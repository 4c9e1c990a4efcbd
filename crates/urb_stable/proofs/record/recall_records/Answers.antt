use Rattle.urb_stable.proofs.Common.{All, IsEntry, arith, subst, take_all}
use Rattle.std.proofs.lemmas.List.Elements.{All-more}
use Rattle.urb_stable.proofs.record.recall_records.Goals as goal

pub loop-record-preserved : goal.loop-record-preserved
loop-record-preserved g c =
    All-more IsEntry c.args.records.now c.loop-record.record-index c.record-item.result
    c.loop-record-test.true c.loop-record.invariant
    (subst IsEntry c.record-item.is c.recall.ensures)

pub returns : goal.returns
returns g c =
    subst (All IsEntry) (take_all c.loop-record.record-index c.args.records.now (omega arith))
    c.loop-record.invariant
