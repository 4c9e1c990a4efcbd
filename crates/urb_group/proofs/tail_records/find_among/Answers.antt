use Rattle.std.proofs.Common.{ap, option_map, sym, ◌∙◌}
use Rattle.urb_group.proofs.tails.TailRecords.{found-here, found-later, found-nowhere}
use Rattle.urb_group.proofs.tail_records.find_among.Goals as goal

pub returns-in-Some : goal.returns-in-Some
returns-in-Some g c =
    found-here c.args.records.now c.loop-entry.entry-index c.entry-item.result c.args.name
    c.in-Some.message.now c.loop-entry-test.true c.entry-item.is
    (ap (option_map (λ m. m.now)) (sym c.in-Some.is) ∙ c.message_at.ensures)
    c.loop-entry.invariant

pub loop-entry-preserved : goal.loop-entry-preserved
loop-entry-preserved g c =
    found-later c.args.records.now c.loop-entry.entry-index c.entry-item.result c.args.name
    c.loop-entry-test.true c.entry-item.is
    (ap (option_map (λ m. m.now)) (sym c.in_default.is) ∙ c.message_at.ensures)
    c.loop-entry.invariant

pub returns : goal.returns
returns g c =
    found-nowhere c.args.records.now c.loop-entry.entry-index c.args.name c.loop-entry-test.false
    c.loop-entry.invariant
