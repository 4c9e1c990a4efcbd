use Rattle.urb_fifo.proofs.Common.{Delivery, ap, arith, length, part_of, sym, view_of, ◌∙◌, ◌≡◌}
use Rattle.urb_fifo.proofs.Common.{◌≤◌}
use Rattle.urb_fifo.proofs.LogReleases.{part_within}
use Rattle.urb_fifo.proofs.fifo.Fifo.count.Goals as goal

pub returns : goal.returns
returns g c =
    let a = c.self.inside in
    let s = c.args.sender in
    let inner : c.reach.result ≡ length (part_of s a.log.items) =
    c.reach.ensures ∙ ap length (sym (c.self.invariant.delivery.parts s)) in
    let count : c.reach.result ≡ length (part_of s c.args.self.now.log) =
    inner ∙ ap (λ (d : Delivery). length (part_of s d.log)) c.self.view_is in
    let most : length (part_of s a.log.items) ≤ a.config.cap =
    part_within (view_of a) c.self.invariant.delivery s in
    let cap : a.config.cap ≡ c.args.self.now.limits.cap =
    ap (λ (d : Delivery). d.limits.cap) c.self.view_is in
    record { count = count; most = omega arith }
