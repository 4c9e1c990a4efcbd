use Rattle.std.proofs.Common.{arith}
use Rattle.urb_group.proofs.tails.TailHolders.{would-itself, would-other}
use Rattle.urb_group.proofs.tail_rules.would_hold.Goals as goal

pub returns-then-place-at : goal.returns-then-place-at
returns-then-place-at g c =
    would-itself c.requires.group c.args.at c.args.place c.args.name c.args.message.now
    c.if-place-at.true

pub bounds-nodes-place : goal.bounds-nodes-place
bounds-nodes-place g c = omega (arith, c.requires.within, c.requires.group.placed.count)

pub returns : goal.returns
returns g c =
    would-other c.requires.group c.args.at c.args.place c.args.name c.args.message.now
    c.index-nodes-place.result c.has.result c.if-place-at.false c.index-nodes-place.is
    c.requires.within c.has.ensures
