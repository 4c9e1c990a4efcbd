-- In a new world each event gets another reply.
use Rattle.urb_world.specs.Step.{step}
use Rattle.urb_world.specs.World.{started}
use Rattle.urb_world.specs.internal.Examples.{limits}
use Rattle.urb_step_examples.proofs.worked.cluster_events.what_replies_say.Goals as goal

pub returns-clause-another_draft : goal.returns-clause-another_draft
unfolding step
returns-clause-another_draft c shows h = let told = (h (started (limits 4 10)) shows).told in cc

pub returns-clause-another_answer : goal.returns-clause-another_answer
unfolding step
returns-clause-another_answer c shows h = let told = (h (started (limits 4 10)) shows).told in cc

pub returns-clause-another_stored_record : goal.returns-clause-another_stored_record
unfolding step
returns-clause-another_stored_record c shows h =
    let told = (h (started (limits 4 10)) shows).told in cc

pub returns-clause-another_tick : goal.returns-clause-another_tick
unfolding step
returns-clause-another_tick c shows h = let told = (h (started (limits 4 10)) shows).told in cc

pub returns-clause-another_crash : goal.returns-clause-another_crash
unfolding step
returns-clause-another_crash c shows h = let told = (h (started (limits 4 10)) shows).told in cc

pub returns-clause-another_restart : goal.returns-clause-another_restart
unfolding step
returns-clause-another_restart c shows h = let told = (h (started (limits 4 10)) shows).told in cc

pub returns-clause-a_crash_that_comes_up : goal.returns-clause-a_crash_that_comes_up
unfolding step
returns-clause-a_crash_that_comes_up c shows h =
    let told = (h (started (limits 4 10)) shows).told in cc
