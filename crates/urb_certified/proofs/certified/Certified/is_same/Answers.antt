use Rattle.urb_certified.proofs.Common.{Certificates, ap, ap₂, rules, sym, ◌∙◌, ◌≡◌}
use Rattle.urb_certified.proofs.SenderReaches.{held}
use Rattle.urb_certified.proofs.EqualParts.{same_above, same_low}
use Rattle.urb_certified.proofs.certified.Certified.is_same.Goals as goal

pub returns-then-eq : goal.returns-then-eq
returns-then-eq g c =
    let a = c.self.inside in
    let b = c.other.inside in
    let low : a.low ≡ b.low = search rules in (
      λ e.
          let above : a.above.items ≡ b.above.items = search rules in
          ap (λ (d : Certificates). d.names) (sym c.self.view_is)
          ∙ (ap₂ held low above ∙ ap (λ (d : Certificates). d.names) c.other.view_is),
      λ e.
          let same : held a.low a.above.items ≡ held b.low b.above.items =
          ap (λ (d : Certificates). d.names) c.self.view_is
          ∙ (e ∙ ap (λ (d : Certificates). d.names) (sym c.other.view_is)) in
          let above : a.above.items ≡ b.above.items =
          same_above a.low b.low a.above.items b.above.items c.self.invariant c.other.invariant
          same in
          search rules,
    )

pub returns-else-eq : goal.returns-else-eq
returns-else-eq g c =
    let a = c.self.inside in
    let b = c.other.inside in (
      λ e. absurd (search rules),
      λ e.
          let same : held a.low a.above.items ≡ held b.low b.above.items =
          ap (λ (d : Certificates). d.names) c.self.view_is
          ∙ (e ∙ ap (λ (d : Certificates). d.names) (sym c.other.view_is)) in
          let low : a.low ≡ b.low =
          same_low a.low b.low a.above.items b.above.items c.self.invariant c.other.invariant
          same in
          search rules,
    )
