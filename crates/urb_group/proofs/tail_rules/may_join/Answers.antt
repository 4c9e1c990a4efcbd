use Rattle.std.proofs.Common.{arith, sym, ◌∙◌}
use Rattle.urb_group.proofs.tails.TailAnswers.{joins-d, joins-not-a, joins-not-b, joins-not-c}
use Rattle.urb_group.proofs.tails.TailHolders.{number-read}
use Rattle.urb_group.proofs.tail_rules.may_join.Goals as goal

pub is_in_turn-requires : goal.is_in_turn-requires
is_in_turn-requires g c =
    number-read c.requires.group c.args.at c.index-nodes-at.result c.index-nodes-at.is
    c.requires.within ∙ sym c.requires.place

pub bounds-nodes-at : goal.bounds-nodes-at
bounds-nodes-at g c = omega (arith, c.requires.within, c.requires.group.placed.count)

pub returns-then-not-is_new : goal.returns-then-not-is_new
returns-then-not-is_new g c =
    joins-not-a c.requires.group c.args.at c.args.node c.requires.place c.index-nodes-at.result
    c.index-nodes-at.is c.requires.within c.args.before.now c.args.entry.now
    (rw c.if-not-is_new.true at c.is_new.ensures)

pub returns-then-not-is_in_turn : goal.returns-then-not-is_in_turn
returns-then-not-is_in_turn g c =
    joins-not-b c.requires.group c.args.at c.args.node c.requires.place c.index-nodes-at.result
    c.index-nodes-at.is c.requires.within c.args.before.now c.args.entry.now
    (rw c.if-not-is_new.false at c.is_new.ensures)
    (rw c.if-not-is_in_turn.true at c.is_in_turn.ensures)

pub returns-then-not-is_at_its_sender : goal.returns-then-not-is_at_its_sender
returns-then-not-is_at_its_sender g c =
    joins-not-c c.requires.group c.args.at c.args.node c.requires.place c.index-nodes-at.result
    c.index-nodes-at.is c.requires.within c.args.before.now c.args.entry.now
    (rw c.if-not-is_new.false at c.is_new.ensures)
    (rw c.if-not-is_in_turn.false at c.is_in_turn.ensures)
    (rw c.if-not-is_at_its_sender.true at c.is_at_its_sender.ensures)

pub returns : goal.returns
returns g c =
    joins-d c.requires.group c.args.at c.args.node c.requires.place c.index-nodes-at.result
    c.index-nodes-at.is c.requires.within c.args.before.now c.args.entry.now
    (rw c.if-not-is_new.false at c.is_new.ensures)
    (rw c.if-not-is_in_turn.false at c.is_in_turn.ensures)
    (rw c.if-not-is_at_its_sender.false at c.is_at_its_sender.ensures) _
    c.is_certified_rightly.ensures
