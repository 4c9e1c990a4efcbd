use Rattle.urb_stable.proofs.Common.{Ok, [], append-nil, length, refl, subst, sym, ◌++◌, ◌≡◌}
use Rattle.urb_stable.proofs.AheadTails.{held-tail, no_records}
use Rattle.urb_stable.specs.AheadStores.{AheadView}
use Rattle.urb_stable.specs.KeptDrafts.{KeepsAll}
use Rattle.urb_stable.proofs.ahead_store.AheadStore.hold.Goals as goal

pub returns-in-Ok : goal.returns-in-Ok
returns-in-Ok g c =
    let it = c.self.inside in
    let none : it.queue.left ≡ [] =
    no_records it.queue.left (subst (λ (s : AheadView _). length s.ahead ≡ 0) (sym c.self.view_is)
    c.requires) in
    let k : KeepsAll g.S.Stable it.store (g.S.Stable.place it.store) c.args.entries.items (Ok tt)
    c.keep_all.new.store =
    rw (← c.deref.ensures.value) c.in-Ok.ensures.kept in
    rw (← c.self.view_is, none) (held-tail g.S.Stable it.store c.keep_all.new.store it.start.value
    c.of-start.result.value (g.S.Stable.certain it.start.value ++ it.queue.taken)
    (g.S.Stable.certain c.of-start.result.value ++ c.new.result.taken) c.new.result.left
    it.failing it.spent it.failures c.args.entries.items (rw none at c.self.invariant)
    c.keep_all.ensures.sure k c.of-start.ensures
    (rw (c.of-start.ensures, c.new.ensures) (append-nil (g.S.Stable.certain it.store)))
    (rw c.new.ensures refl))
