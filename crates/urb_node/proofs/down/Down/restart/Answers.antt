use Rattle.urb_node.proofs.Common.{Fallen, Memory, Restarts, ap, subst, ◌∙◌}
use Rattle.urb_node.proofs.down.Down.restart.Goals as goal

pub returns : goal.returns
returns g c =
    let as_was =
    ap (λ (a : Memory). record { memory = a; doubt = c.self.inside.doubt })
    c.forget_heard.ensures.memory ∙ c.self.view_is in
    subst (λ (f : Fallen). Restarts f c.args.image.items c.recover.result) as_was c.recover.ensures
