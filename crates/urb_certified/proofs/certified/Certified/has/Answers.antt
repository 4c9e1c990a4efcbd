use Rattle.urb_certified.proofs.Common.{Certificates, all_names, ap, has_name, rules, sym, ◌∙◌, ◌≡◌}
use Rattle.urb_certified.proofs.SenderReaches.{held_has}
use Rattle.urb_certified.proofs.certified.Certified.has.Goals as goal

pub returns : goal.returns
returns g c =
    let x = c.args.name in
    let here : c.has.result ≡ has_name (all_names c.self.inside.low c.self.inside.above.items) x =
    search rules in
    here ∙ (sym (held_has c.self.inside.low c.self.inside.above.items x)
    ∙ ap (λ (d : Certificates). has_name d.names x) c.self.view_is)
