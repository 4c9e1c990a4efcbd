use Rattle.std.proofs.Common.{◌∙◌}
use Rattle.urb_pending.proofs.PairSearches.{front_name}
use Rattle.urb_pending.proofs.NextNames.{first_cyclic, whole_cycle}
use Rattle.urb_pending.proofs.pending.Pending.after.Goals as goal

pub returns-in-None : goal.returns-in-None
returns-in-None g c =
    rw (c.in-None.is, ← c.self.view_is)
    (c.first.ensures ∙ (front_name c.self.inside.windows.entries
    ∙ whole_cycle c.self.inside.windows.entries))

pub returns-in-Some : goal.returns-in-Some
returns-in-Some g c =
    rw (
      c.in-Some.is,
      ← c.self.view_is,
      c.or.ensures,
      c.after.ensures,
      c.first-in-Some.ensures,
      front_name c.self.inside.windows.entries,
    )
    (first_cyclic c.in-Some.name c.self.inside.windows.entries)
