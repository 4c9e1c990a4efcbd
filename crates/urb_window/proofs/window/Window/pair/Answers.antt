use Rattle.urb_window.proofs.Common.{Some, ap, arith, get_or, length, pairs_of, rules, slice_get}
use Rattle.urb_window.proofs.Common.{slice_get-get_or, slice_get_past, sym, ◌+◌, ◌-◌, ◌<◌, ◌∙◌, ◌≡◌}
use Rattle.urb_window.proofs.Common.{◌≤◌}
use Rattle.urb_window.proofs.NumberedValues.{pair_behind, pair_low}
use Rattle.urb_window.proofs.window.Window.pair.Goals as goal

pub returns-then-index-len : goal.returns-then-index-len
returns-then-index-len g c =
    let low = c.self.inside.low.items in
    let above = c.self.inside.above.items in
    let i = c.args.index in
    let d = c.index.result.now in
    let within : i < length low = search rules in
    let read : d ≡ get_or low i d = search rules in
    let next : i + 1 ≡ 1 + i = omega arith in
    ap (λ n. Some (n, d)) next ∙ (ap (λ v. Some (1 + i, v)) read
    ∙ (sym (pair_low 1 low above i d within)
    ∙ ap (λ r. slice_get (pairs_of r) i) c.self.view_is))

pub returns-in-Some : goal.returns-in-Some
returns-in-Some g c =
    let low = c.self.inside.low.items in
    let above = c.self.inside.above.items in
    let i = c.args.index in
    let d = c.in-Some.pair.now in
    let behind : length low ≤ i = search rules in
    let within : i - length low < length above = search rules in
    let read : d ≡ get_or above (i - length low) d = search rules in
    ap (λ p. Some p) read ∙ (sym (slice_get-get_or above (i - length low) d within)
    ∙ (sym (pair_behind 1 low above i behind)
    ∙ ap (λ r. slice_get (pairs_of r) i) c.self.view_is))

pub returns-in-None : goal.returns-in-None
returns-in-None g c =
    let low = c.self.inside.low.items in
    let above = c.self.inside.above.items in
    let i = c.args.index in
    let behind : length low ≤ i = search rules in
    let beyond : length above ≤ i - length low = search rules in
    sym (slice_get_past above (i - length low) beyond)
    ∙ (sym (pair_behind 1 low above i behind)
    ∙ ap (λ r. slice_get (pairs_of r) i) c.self.view_is)
