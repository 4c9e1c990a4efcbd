use Rattle.urb_show.proofs.read_position.ReadPosition.copy.Goals as goal

pub invariant_of-result : goal.invariant_of-result
invariant_of-result g c = rw (c.copy.ensures, c.copy-3.ensures) c.self.invariant
