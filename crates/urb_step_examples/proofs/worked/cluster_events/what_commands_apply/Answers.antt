-- A tick of a new node is no refusal, and neither is a crash.
use Rattle.urb_world.specs.Step.{step}
use Rattle.urb_world.specs.World.{started}
use Rattle.urb_world.specs.internal.Examples.{limits}
use Rattle.urb_step_examples.proofs.worked.cluster_events.what_commands_apply.Goals as goal

pub returns-clause-a_tick_is_no_failed_store : goal.returns-clause-a_tick_is_no_failed_store
unfolding step
returns-clause-a_tick_is_no_failed_store c shows h =
    let told = h.0.0 (started (limits 4 10)) shows in cc

pub returns-clause-a_crash_is_no_failed_store : goal.returns-clause-a_crash_is_no_failed_store
unfolding step
returns-clause-a_crash_is_no_failed_store c shows h =
    let told = h.0.0 (started (limits 4 10)) shows in cc

pub returns-clause-a_crash_is_no_restart : goal.returns-clause-a_crash_is_no_restart
unfolding step
returns-clause-a_crash_is_no_restart c shows h =
    let told = h.0.0 (started (limits 4 10)) shows in cc
