use Rattle.urb_pending.proofs.Common.{name_lt, ◌∙◌}
use Rattle.urb_pending.proofs.PairSearches.{front_name}
use Rattle.urb_pending.proofs.NextNames.{all_behind_none, first_passing}
use Rattle.urb_pending.proofs.pending.Pending.behind.Goals as goal

pub returns-in-None : goal.returns-in-None
returns-in-None g c =
    rw (c.in-None.is, ← c.self.view_is)
    (c.first.ensures ∙ (front_name c.self.inside.windows.entries
    ∙ all_behind_none c.self.inside.windows.entries))

pub returns-in-Some : goal.returns-in-Some
returns-in-Some g c =
    rw (c.in-Some.is, ← c.self.view_is)
    (c.after.ensures ∙ first_passing
    (λ pair. name_lt c.in-Some.name pair.0) c.self.inside.windows.entries)
