use Rattle.urb_show.proofs.Common.{[], deliveries-known, log, reached-keeps, refl, stored, ◌∙◌}
use Rattle.urb_show.proofs.ServiceJoins.{entries-shown, logs-join}
use Rattle.urb_show.proofs.service_laws.every_log_is_one_of_the_service.Goals as goal

pub returns-clause-logs : goal.returns-clause-logs
returns-clause-logs c w p r =
    logs-join w (reached-keeps w r).0.nodes p [] (log (stored w p)) refl

pub returns-clause-entries : goal.returns-clause-entries
returns-clause-entries c w p r = entries-shown w (reached-keeps w r).0.nodes p

pub returns-clause-delivered : goal.returns-clause-delivered
returns-clause-delivered c group w p r shows =
    let kept = (reached-keeps w r).0 in
    deliveries-known group w p (record { world = w; shows = shows; kept = kept }) shows
    ∙ entries-shown w kept.nodes p
