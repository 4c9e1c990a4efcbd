use Rattle.urb_world.proofs.steps.Runs.{reached-keeps}
use Rattle.urb_show.proofs.ServiceLaws.{start-shown}
use Rattle.urb_show.proofs.service_laws.every_start_is_one_of_the_service.Goals as goal

pub returns : goal.returns
returns c w images r left = start-shown w (reached-keeps w r).0 images left
