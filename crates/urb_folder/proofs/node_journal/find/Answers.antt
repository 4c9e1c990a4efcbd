use Rattle.urb_folder.proofs.Common.{OpensIn, OpensOf, subst}
use Rattle.urb_folder.proofs.PlacesInOrder.{claim_at, outcome_of}
use Rattle.urb_folder.proofs.node_journal.find.Goals as goal

pub returns-in-Some : goal.returns-in-Some
returns-in-Some g c = λ place there.
    let held = g.D.NodeDisk.held in
    let node =
    claim_at (OpensIn g.D.Disk held) place c.args.found c.in-Err.claim c.in-Err.is there in
    subst (λ node. OpensOf g.D.Disk held node c.open_claimed.result) node
    (outcome_of _ _ _ c.open_claimed.result c.open_claimed.ensures.node
    c.open_claimed.ensures.found c.open_claimed.ensures.fault)
