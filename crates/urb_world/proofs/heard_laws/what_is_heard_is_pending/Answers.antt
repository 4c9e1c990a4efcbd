use Rattle.urb_world.proofs.hearing.HeardNames.{reached-hears, reached-tells}
use Rattle.urb_world.proofs.heard_laws.what_is_heard_is_pending.Goals as goal

pub returns-clause-heard : goal.returns-clause-heard
returns-clause-heard c w p r = reached-hears w r p

pub returns-clause-told : goal.returns-clause-told
returns-clause-told c w p position entry done r e = reached-tells w p position entry done r e
