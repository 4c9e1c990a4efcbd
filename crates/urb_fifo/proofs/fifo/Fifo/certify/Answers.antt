use Rattle.urb_fifo.proofs.Common.{Delivery, ap, arith, length, length-append, newly_released, sym}
use Rattle.urb_fifo.proofs.Common.{◌∙◌}
use Rattle.urb_fifo.proofs.LogReleases.{certified_new, release_goes_on, release_stays}
use Rattle.urb_fifo.proofs.fifo.Fifo.certify.Goals as goal

pub returns-then-is_certified-clause-release : goal.returns-then-is_certified-clause-release
returns-then-is_certified-clause-release g c =
    λ older h. release_stays older c.args.self.now c.args.name
    (sym c.is_certified.ensures ∙ c.if-is_certified.true) h

pub returns-clause-count : goal.returns-clause-count
returns-clause-count g c =
    let d = c.args.self.now in
    let is =
    certified_new d _ c.args.name (sym c.is_certified.ensures ∙ c.if-is_certified.false)
    c.in_ok-count.ensures.ok in
    ap (λ (e : Delivery). length e.log) is
    ∙ omega (
      arith,
      length-append d.log (newly_released d.log d.certified c.args.name),
      c.in_ok-count.ensures.count,
    )

pub returns-clause-release : goal.returns-clause-release
returns-clause-release g c =
    λ older h.
    let d = c.args.self.now in
    let is =
    certified_new d _ c.args.name (sym c.is_certified.ensures ∙ c.if-is_certified.false)
    c.in_ok-count.ensures.ok in
    release_goes_on older d _ c.args.name h (ap (λ (e : Delivery). e.log) is)
    (ap (λ (e : Delivery). e.certified) is)

pub returns-clause-limits : goal.returns-clause-limits
returns-clause-limits g c =
    ap (λ (e : Delivery). e.limits) (certified_new c.args.self.now _ c.args.name
    (sym c.is_certified.ensures ∙ c.if-is_certified.false) c.in_ok-count.ensures.ok)
