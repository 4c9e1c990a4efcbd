use Rattle.urb_node.proofs.Common.{Crashes, Fallen, Memory, ShowsReady, memory_of, subst, sym}
use Rattle.urb_node.proofs.NodeFailures.{crashes-ready}
use Rattle.urb_node.proofs.ready.Ready.crash.Goals as goal

pub returns : goal.returns
returns g c =
    let old : Memory = memory_of c.self.inside.held in
    subst (λ (a : Memory). Crashes (ShowsReady a) a c.take_down.result) c.self.view_is
    (subst (λ (f : Fallen). Crashes (ShowsReady old) old f) (sym c.take_down.ensures)
    (crashes-ready old))
