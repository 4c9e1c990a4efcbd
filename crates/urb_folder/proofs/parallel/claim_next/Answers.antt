use Rattle.urb_folder.proofs.Common.{None, OpensIn, Some, refl}
use Rattle.urb_stable.specs.declared.stable.StoreFault.TheVariants.{Device}
use Rattle.urb_folder.proofs.PlacesInOrder.{claimed}
use Rattle.urb_folder.proofs.parallel.claim_next.Goals as goal

pub returns-in-Some : goal.returns-in-Some
returns-in-Some g c = λ place given.
    claimed (OpensIn g.D.Disk g.D.NodeDisk.held) (Some c.in-Some.claim) c.args.claims.now
    c.take_next.new.self Device c.in-Some.ensures (λ at. refl) place given

pub returns-in-None : goal.returns-in-None
returns-in-None g c = λ place given.
    claimed (OpensIn g.D.Disk g.D.NodeDisk.held) None c.args.claims.now
    c.take_next.new.self Device c.in-None.ensures (λ at. refl) place given
