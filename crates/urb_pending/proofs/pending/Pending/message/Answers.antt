use Rattle.std.proofs.Common.{◌∙◌}
use Rattle.urb_pending.proofs.PairSearches.{value_is}
use Rattle.urb_pending.proofs.pending.Pending.message.Goals as goal

pub returns : goal.returns
returns g c =
    rw (← c.self.view_is) (c.get.ensures ∙ value_is c.self.inside.windows.entries c.args.name)
