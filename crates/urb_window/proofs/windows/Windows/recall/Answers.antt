use Rattle.urb_window.proofs.Common.{IsWindowSet, subst}
use Rattle.urb_window.proofs.EntryOrder.{entries_are}
use Rattle.urb_window.proofs.windows.Windows.recall.Goals as goal

pub returns : goal.returns
returns g c =
    let a = c.self.inside in subst (λ set. IsWindowSet set) c.self.view_is
    (entries_are a.rows.items a.reserved c.self.invariant.most c.self.invariant.rows)
