-- A tick that leaves out a due pair passes sixteen others.
use Rattle.urb_world.proofs.ticks.DueTurns.{due-there, tick-passes}
use Rattle.urb_world.proofs.fairness.a_tick_passes_sixteen.Goals as goal

pub returns : goal.returns
returns c all cursor x m due rises h =
    tick-passes all rises x m (due-there all x m due h) cursor due h
