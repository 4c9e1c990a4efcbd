use Rattle.urb_window.proofs.Common.{above_of, ap, length, no_row, row_at, rules, sym, ◌∙◌, ◌≡◌}
use Rattle.urb_window.proofs.EntryParts.{above_is}
use Rattle.urb_window.proofs.windows.Windows.above.Goals as goal

pub returns-in-Some : goal.returns-in-Some
returns-in-Some g c =
    let rows = c.self.inside.rows.items in
    let s = c.args.sender in
    let row : c.in-Some.row.now ≡ row_at rows s = search rules in
    c.above.ensures ∙ (ap (λ r. length r.above) row
    ∙ (sym (above_is rows s c.self.invariant.rows (search rules))
    ∙ ap (λ set. above_of s set.entries) c.self.view_is))

pub returns-in-None : goal.returns-in-None
returns-in-None g c =
    let rows = c.self.inside.rows.items in
    let s = c.args.sender in
    let none : row_at rows s ≡ no_row = search rules in
    ap (λ r. length r.above) (sym none)
    ∙ (sym (above_is rows s c.self.invariant.rows (search rules))
    ∙ ap (λ set. above_of s set.entries) c.self.view_is)
