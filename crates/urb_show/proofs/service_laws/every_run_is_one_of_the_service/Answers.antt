use Rattle.urb_world.proofs.steps.Runs.{reached-keeps}
use Rattle.urb_show.proofs.ServiceLaws.{run-shown}
use Rattle.urb_show.proofs.service_laws.every_run_is_one_of_the_service.Goals as goal

pub returns : goal.returns
returns c w events r = run-shown w events (reached-keeps w r).0.nodes
