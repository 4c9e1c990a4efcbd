use Rattle.urb_window.proofs.Common.{ap, no_row, numbered, pairs_of, row_at, rules, sym, value_of}
use Rattle.urb_window.proofs.Common.{◌∙◌, ◌≡◌}
use Rattle.urb_window.proofs.NameSearches.{value_rows}
use Rattle.urb_window.proofs.windows.Windows.get.Goals as goal

pub returns-in-Some : goal.returns-in-Some
returns-in-Some g c =
    let rows = c.self.inside.rows.items in
    let x = c.args.name in
    let row : c.in-Some.row.now ≡ row_at rows x.sender = search rules in
    c.get.ensures
    ∙ (ap (λ y. numbered (pairs_of c.in-Some.row.now) y.seq) c.name.view_is
    ∙ (ap (λ r. numbered (pairs_of r) x.seq) row
    ∙ (sym (value_rows 1 rows x c.recall.ensures.sender.0)
    ∙ ap (λ set. value_of set.entries x) c.self.view_is)))

pub returns-in-None : goal.returns-in-None
returns-in-None g c =
    let rows = c.self.inside.rows.items in
    let x = c.args.name in
    let none : row_at rows x.sender ≡ no_row = search rules in
    ap (λ r. numbered (pairs_of r) x.seq) (sym none)
    ∙ (sym (value_rows 1 rows x c.recall.ensures.sender.0)
    ∙ ap (λ set. value_of set.entries x) c.self.view_is)
