use Rattle.urb_node.proofs.down.take_down.Goals as goal

pub invariant_of-result : goal.invariant_of-result
invariant_of-result g c = record { held = c.requires.kept; doubtful = c.requires.next }
