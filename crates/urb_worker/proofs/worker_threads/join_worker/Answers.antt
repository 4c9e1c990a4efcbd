use Rattle.urb_worker.proofs.worker_threads.join_worker.Goals as goal

pub returns-in-Ok-clause-served : goal.returns-in-Ok-clause-served
returns-in-Ok-clause-served g c = rw c.in-Ok.is c.join.ensures.0

pub returns-in-Ok-clause-keeps : goal.returns-in-Ok-clause-keeps
returns-in-Ok-clause-keeps g c = rw c.in-Ok.is c.join.ensures.1

pub returns-in-Err-clause-served : goal.returns-in-Err-clause-served
returns-in-Err-clause-served g c = rw (c.in-Err.is, ← c.left.view_is) c.left.invariant.0

pub returns-in-Err-clause-keeps : goal.returns-in-Err-clause-keeps
returns-in-Err-clause-keeps g c = rw (c.in-Err.is, ← c.left.view_is) c.left.invariant.1
