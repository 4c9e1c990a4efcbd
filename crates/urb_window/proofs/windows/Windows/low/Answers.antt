use Rattle.urb_window.proofs.Common.{ap, length, low_of, no_row, row_at, rules, sym, ◌∙◌, ◌≡◌}
use Rattle.urb_window.proofs.NameSearches.{low_is}
use Rattle.urb_window.proofs.windows.Windows.low.Goals as goal

pub returns-in-Some : goal.returns-in-Some
returns-in-Some g c =
    let rows = c.self.inside.rows.items in
    let s = c.args.sender in
    let row : c.low.result ≡ length (row_at rows s).low = search rules in
    row ∙ (sym (low_is rows s c.self.invariant.rows (search rules))
    ∙ ap (λ set. low_of s set.entries) c.self.view_is)

pub returns-in-None : goal.returns-in-None
returns-in-None g c =
    let rows = c.self.inside.rows.items in
    let s = c.args.sender in
    let none : row_at rows s ≡ no_row = search rules in
    ap (λ r. length r.low) (sym none)
    ∙ (sym (low_is rows s c.self.invariant.rows (search rules))
    ∙ ap (λ set. low_of s set.entries) c.self.view_is)
