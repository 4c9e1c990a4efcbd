use Rattle.std.proofs.Common.{refl}
use Rattle.urb_group.proofs.node_moves.Node.state.Goals as goal

pub returns-in-Ready : goal.returns-in-Ready
returns-in-Ready g c = rw c.in-Ready.is refl

pub returns-in-Storing : goal.returns-in-Storing
returns-in-Storing g c = rw c.in-Storing.is refl

pub returns-in-Down : goal.returns-in-Down
returns-in-Down g c = rw c.in-Down.is refl
