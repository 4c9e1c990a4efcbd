use Rattle.urb_link.proofs.tick_timer.pause.Given as goal

abbrev pub decreases-loop-left : goal.decreases-loop-left
decreases-loop-left g l = l.left
