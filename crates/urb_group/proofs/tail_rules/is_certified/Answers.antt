use Rattle.urb_group.proofs.tails.TailAnswers.{names-later, names-stored}
use Rattle.urb_group.proofs.tail_rules.is_certified.Goals as goal

pub returns-then-certified : goal.returns-then-certified
returns-then-certified g c =
    names-stored c.args.current.now c.args.before.now c.args.name
    (rw c.if-certified.true at c.certified.ensures)

pub returns : goal.returns
returns g c =
    names-later c.args.current.now c.args.before.now c.args.name _
    (rw c.if-certified.false at c.certified.ensures) c.is_certified_among.ensures
