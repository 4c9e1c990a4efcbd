use Rattle.urb_show.proofs.ServicePromises.{start-keeps_all, step-keeps_all}
use Rattle.urb_show.proofs.service_laws.the_service_takes_nothing_back.Goals as goal

pub returns-clause-step : goal.returns-clause-step
returns-clause-step c = step-keeps_all

pub returns-clause-start : goal.returns-clause-start
returns-clause-start c = start-keeps_all
