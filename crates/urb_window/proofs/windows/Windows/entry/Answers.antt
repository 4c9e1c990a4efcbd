use Rattle.urb_window.proofs.Common.{ap, entries_from, slice_get, ◌∙◌}
use Rattle.urb_window.proofs.windows.Windows.entry.Goals as goal

pub returns : goal.returns
returns g c =
    c.entry_of.ensures
    ∙ (ap (λ rows. slice_get (entries_from 1 rows) c.args.index) c.deref.ensures.value
    ∙ ap (λ set. slice_get set.entries c.args.index) c.self.view_is)
