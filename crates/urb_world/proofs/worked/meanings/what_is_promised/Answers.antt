use Rattle.urb_world.proofs.worked.meanings.what_is_promised.Goals as goal

pub returns-clause-agree : goal.returns-clause-agree
returns-clause-agree c w p q s promised = promised.agree p q s
