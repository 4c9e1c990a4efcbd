use Rattle.urb_group.proofs.node_moves.Node.has.Goals as goal

pub returns-in-Ready : goal.returns-in-Ready
returns-in-Ready g c = rw c.in-Ready.is c.holds.ensures.stored

pub returns-in-Storing : goal.returns-in-Storing
returns-in-Storing g c = rw c.in-Storing.is c.holds-in-Storing.ensures.stored

pub returns-in-Down : goal.returns-in-Down
returns-in-Down g c = rw c.in-Down.is c.holds-in-Down.ensures.stored
