use Rattle.std.proofs.Common.{◌≡◌, ◌<◌, ◌+◌, ◌^◌, rules, arith, ap, sym, ◌∙◌, length}
use Rattle.urb_window.specs.Row.{pairs_of}
use Rattle.urb_window.proofs.NumberedValues.{length-pairs, few_above}
use Rattle.urb_window.proofs.window.Window.count.Goals as goal

pub returns-clause-value : goal.returns-clause-value
returns-clause-value g c =
    let row = c.self.inside in
    let lens : c.len.result + c.len-2.result ≡ length row.low.items + length row.above.items =
    search rules in
    lens ∙ (sym (length-pairs record
    { low = row.low.items; above = row.above.items; reserved = row.reserved })
    ∙ ap (λ r. length (pairs_of r)) c.self.view_is)

pub returns-clause-few : goal.returns-clause-few
returns-clause-few g c =
    let few : length c.self.inside.above.items < 2 ^ 32 = few_above _ c.self.invariant.row in
    let low : length c.self.inside.low.items < 2 ^ 32 = c.self.invariant.row.low in
    omega arith
