use Rattle.std.proofs.Common.{sym, ◌∙◌}
use Rattle.urb_group.proofs.tails.TailRecords.{named-here, named-later, named-nowhere}
use Rattle.urb_group.proofs.tail_records.is_certified_among.Goals as goal

pub returns-then-certifies : goal.returns-then-certifies
returns-then-certifies g c =
    named-here c.args.records.now c.loop-entry.entry-index c.entry-item.result c.args.name
    c.loop-entry-test.true c.entry-item.is (sym c.if-certifies.true ∙ c.certifies.ensures)
    c.loop-entry.invariant

pub loop-entry-preserved : goal.loop-entry-preserved
loop-entry-preserved g c =
    named-later c.args.records.now c.loop-entry.entry-index c.entry-item.result c.args.name
    c.loop-entry-test.true c.entry-item.is (sym c.if-certifies.false ∙ c.certifies.ensures)
    c.loop-entry.invariant

pub returns : goal.returns
returns g c =
    named-nowhere c.args.records.now c.loop-entry.entry-index c.args.name c.loop-entry-test.false
    c.loop-entry.invariant
