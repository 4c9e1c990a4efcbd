use Rattle.urb_group.proofs.tails.TailAnswers.{finds-later, finds-stored}
use Rattle.urb_group.proofs.tail_rules.find_message.Goals as goal

pub returns-in-Some : goal.returns-in-Some
returns-in-Some g c =
    finds-stored c.args.current.now c.args.before.now c.args.name c.in-Some.message.now
    (rw c.in-Some.is at c.message.ensures)

pub returns-in-None : goal.returns-in-None
returns-in-None g c =
    finds-later c.args.current.now c.args.before.now c.args.name _
    (rw c.in-None.is at c.message.ensures) c.find_among.ensures
