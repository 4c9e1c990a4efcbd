use Rattle.urb_window.proofs.Common.{MAX_SENDERS, ap, entries_from, length, option_map, slice_get}
use Rattle.urb_window.proofs.Common.{subst, sym, ◌∙◌, ◌≤◌}
use Rattle.urb_window.proofs.windows.Windows.first.Goals as goal

pub first_from-requires : goal.first_from-requires
first_from-requires g c =
    subst (λ rows. length rows ≤ MAX_SENDERS) (sym c.deref.ensures.value) c.self.invariant.most

pub returns : goal.returns
returns g c =
    c.first_from.ensures
    ∙ (ap (λ rows. option_map (λ entry. entry.0) (slice_get (entries_from 1 rows) 0))
    c.deref.ensures.value
    ∙ ap (λ set. option_map (λ entry. entry.0) (slice_get set.entries 0)) c.self.view_is)
