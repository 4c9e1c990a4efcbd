use Rattle.urb_show.proofs.reader.LogReader.recall.Goals as goal

pub returns-clause-delivered : goal.returns-clause-delivered
returns-clause-delivered g c = rw (← c.self.view_is) c.self.invariant.3
