use Rattle.std.proofs.Common.{ne_eqb, sym}
use Rattle.urb_world.proofs.steps.DraftsInSteps.{step-elsewhere}
use Rattle.urb_world.proofs.safety.StoredRecords.{step-stored}
use Rattle.urb_world.specs.EventEffects.{event_node}
use Rattle.urb_world.proofs.delivering.an_event_changes_one_node.Goals as goal

pub returns-clause-others : goal.returns-clause-others
returns-clause-others c w event q away =
    step-elsewhere w event q (ne_eqb q (event_node event) (λ e. away (sym e)))

pub returns-clause-nothing : goal.returns-clause-nothing
returns-clause-nothing c w event q quiet = step-stored w event quiet q
