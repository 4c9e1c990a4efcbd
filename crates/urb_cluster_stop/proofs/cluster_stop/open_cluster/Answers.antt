use Rattle.std.proofs.lemmas.List.Elements.{All-from_recursion, recursion_from_All}
use Rattle.urb_cluster_stop.proofs.JournalsReopened.{honest-again}
use Rattle.urb_cluster_stop.proofs.cluster_stop.open_cluster.Goals as goal

pub returns-in-Ok-clause-alive : goal.returns-in-Ok-clause-alive
returns-in-Ok-clause-alive g c were clean =
    let opened = c.in-Ok.ensures.opened in
    All-from_recursion _ _
    (honest-again g.S.Stable c.args.stores.items opened.images c.in-Ok.cluster.stores opened.given
    (recursion_from_All _ _ were) (recursion_from_All _ _ clean))

pub returns-in-Ok-clause-sized : goal.returns-in-Ok-clause-sized
returns-in-Ok-clause-sized g c = c.in-Ok.ensures.opened.opens.1.size
