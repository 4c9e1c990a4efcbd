use Rattle.urb_window.proofs.Common.{MAX_SENDERS, ap, entries_from, length, subst, sym, ◌∙◌, ◌≤◌}
use Rattle.urb_window.proofs.windows.Windows.count.Goals as goal

pub count_of-requires : goal.count_of-requires
count_of-requires g c =
    subst (λ rows. length rows ≤ MAX_SENDERS) (sym c.deref.ensures.value) c.self.invariant.most

pub returns : goal.returns
returns g c =
    c.count_of.ensures
    ∙ (ap (λ rows. length (entries_from 1 rows)) c.deref.ensures.value
    ∙ ap (λ set. length set.entries) c.self.view_is)
