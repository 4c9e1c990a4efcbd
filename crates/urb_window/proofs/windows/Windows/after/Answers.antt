use Rattle.urb_window.proofs.Common.{ap, entries_from, find, name_lt, option_map, ◌∙◌}
use Rattle.urb_window.proofs.windows.Windows.after.Goals as goal

pub returns : goal.returns
returns g c =
    c.after_in.ensures
    ∙ (ap (λ rows. option_map (λ entry. entry.0)
    (find (λ entry. name_lt c.args.name entry.0) (entries_from 1 rows))) c.deref.ensures.value
    ∙ ap (λ set. option_map (λ entry. entry.0)
    (find (λ entry. name_lt c.args.name entry.0) set.entries)) c.self.view_is)
