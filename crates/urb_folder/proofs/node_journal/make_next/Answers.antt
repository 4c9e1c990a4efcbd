use Rattle.urb_folder.proofs.Common.{OpensOf, subst}
use Rattle.urb_folder.proofs.PlacesInOrder.{outcome_of}
use Rattle.urb_folder.proofs.node_journal.make_next.Goals as goal

pub returns : goal.returns
returns g c =
    let held = g.D.NodeDisk.held in
    subst (λ node. OpensOf _ held node c.open_claimed.result) c.requires.claim
    (outcome_of _ _ _ c.open_claimed.result c.open_claimed.ensures.node
    c.open_claimed.ensures.found c.open_claimed.ensures.fault)
