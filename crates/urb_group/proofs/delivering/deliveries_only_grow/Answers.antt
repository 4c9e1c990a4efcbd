use Rattle.urb_group.proofs.shown.Deliveries.{deliveries-elsewhere, deliveries-grow}
use Rattle.urb_group.proofs.shown.Deliveries.{deliveries-nothing, deliveries-released}
use Rattle.urb_group.proofs.delivering.deliveries_only_grow.Goals as goal

pub returns-clause-grow : goal.returns-clause-grow
returns-clause-grow c old new event p sound follows = deliveries-grow old new event sound follows p

pub returns-clause-others : goal.returns-clause-others
returns-clause-others c old new event p sound follows away =
    deliveries-elsewhere old new event sound follows p away

pub returns-clause-nothing : goal.returns-clause-nothing
returns-clause-nothing c old new event p sound follows quiet =
    deliveries-nothing old new event sound follows quiet p

pub returns-clause-released : goal.returns-clause-released
returns-clause-released c = deliveries-released
