use Rattle.urb_window.proofs.Common.{ap, no_row, row_at, rules, sym, window_of, ◌∙◌, ◌≡◌}
use Rattle.urb_window.proofs.EntryParts.{window_is}
use Rattle.urb_window.proofs.windows.Windows.window.Goals as goal

pub returns-in-Some : goal.returns-in-Some
returns-in-Some g c =
    let rows = c.self.inside.rows.items in
    let s = c.args.sender in
    let row : c.window.result.now ≡ (row_at rows s).low = search rules in
    row ∙ (sym (window_is rows s c.self.invariant.rows (search rules))
    ∙ ap (λ set. window_of s set.entries) c.self.view_is)

pub returns-in-None : goal.returns-in-None
returns-in-None g c =
    let rows = c.self.inside.rows.items in
    let s = c.args.sender in
    let none : row_at rows s ≡ no_row = search rules in
    ap (λ r. r.low) (sym none) ∙ (sym (window_is rows s c.self.invariant.rows (search rules))
    ∙ ap (λ set. window_of s set.entries) c.self.view_is)
