use Rattle.urb_fifo.proofs.Common.{Delivery, ap, beginning, length, newly_released, rules, sym, ◌∙◌}
use Rattle.urb_fifo.proofs.Common.{◌∷◌, ◌≡◌}
use Rattle.urb_fifo.proofs.PromisedSpace.{newly_kept}
use Rattle.urb_fifo.proofs.fifo.Fifo.range_released_by.Goals as goal

pub returns-clause-range : goal.returns-clause-range
returns-clause-range g c =
    let x = c.args.certificate in
    let from : c.reach-from.result ≡ length (beginning x.sender c.self.inside.certified.names) =
    search rules in
    let end : c.reach_with-end.result ≡ length
    (beginning x.sender (x ∷ c.self.inside.certified.names)) = search rules in
    (newly_kept c.self.inside x c.reach-from.result c.reach_with-end.result c.self.invariant from
    end).0

pub returns-clause-names : goal.returns-clause-names
returns-clause-names g c =
    let x = c.args.certificate in
    let from : c.reach-from.result ≡ length (beginning x.sender c.self.inside.certified.names) =
    search rules in
    let end : c.reach_with-end.result ≡ length
    (beginning x.sender (x ∷ c.self.inside.certified.names)) = search rules in
    ap (λ (d : Delivery). newly_released d.log d.certified x) (sym c.self.view_is)
    ∙ (newly_kept c.self.inside x c.reach-from.result c.reach_with-end.result c.self.invariant from
    end).1
