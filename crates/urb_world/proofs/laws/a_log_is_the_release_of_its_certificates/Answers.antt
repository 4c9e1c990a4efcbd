use Rattle.urb_stable.proofs.LogGrowth.{delivers}
use Rattle.urb_world.proofs.laws.a_log_is_the_release_of_its_certificates.Goals as goal

pub returns : goal.returns
returns c = delivers
