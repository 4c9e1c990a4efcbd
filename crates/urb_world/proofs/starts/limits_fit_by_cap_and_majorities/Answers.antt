-- Images keep the rules under other limits exactly if the cap and the majorities allow it.
use Rattle.urb_world.proofs.stops.LimitChanges.{fits-more, fits-only, fits-under}
use Rattle.urb_world.proofs.starts.limits_fit_by_cap_and_majorities.Goals as goal

pub returns-clause-fits : goal.returns-clause-fits
returns-clause-fits c = fits-under

pub returns-clause-only_then : goal.returns-clause-only_then
returns-clause-only_then c = fits-only

pub returns-clause-greater_cap : goal.returns-clause-greater_cap
returns-clause-greater_cap c = fits-more
