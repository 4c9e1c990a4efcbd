use Rattle.urb_certified.proofs.Common.{Certificates, ap, beginning, length, rules, sym, ◌∙◌}
use Rattle.urb_certified.proofs.SenderReaches.{reach_low}
use Rattle.urb_certified.proofs.certified.Certified.reach.Goals as goal

pub returns : goal.returns
returns g c =
    let s = c.args.sender in
    c.low_of.ensures
    ∙ (sym (reach_low c.self.inside.low c.self.inside.above.items s c.self.invariant (search rules))
    ∙ ap (λ (d : Certificates). length (beginning s d.names)) c.self.view_is)
