use Rattle.urb_stable.proofs.Common.{Err, Ok, Some, false, length, slice_get, subst, sym, ℕ, ◌++◌, ◌<◌}
use Rattle.urb_stable.proofs.Common.{◌∙◌, ◌≡◌}
use Rattle.urb_stable.proofs.AheadReplacements.{refuses-another, replaces}
use Rattle.urb_stable.specs.AheadStores.{AheadView, needs_retrieve, next_place}
use Rattle.urb_stable.specs.StableStorage.{is_out_of_place}
use Rattle.urb_stable.specs.internal.AheadCalls.{IsCountedOver}
use Rattle.urb_stable.specs.internal.TakenOut.{TakesOut}
use Rattle.urb_stable.proofs.ahead_store.AheadStore.replace_ahead.Goals as goal

pub returns-in-Ok : goal.returns-in-Ok
returns-in-Ok g c =
    let it = c.self.inside in
    let some : 0 < length it.queue.left =
    subst (λ (s : AheadView _). 0 < length s.ahead) (sym c.self.view_is) c.requires.some in
    let held : it.failing ≡ false =
    subst (λ (s : AheadView _). s.failing ≡ false) (sym c.self.view_is) c.requires.held in
    rw (← c.self.view_is, c.drop_left.ensures) (replaces g.S.Stable it.store c.withdraw.new.self
    c.store.new.self it.start.value (g.S.Stable.certain it.start.value ++ it.queue.taken)
    it.queue.left it.failing it.spent it.failures c.args.pos c.args.entry.now c.store.result
    c.self.invariant held some
    (subst (λ (s : AheadView _). is_out_of_place (needs_retrieve g.S.Stable s)
    (next_place g.S.Stable s) c.args.pos ≡ false) (sym c.self.view_is) c.requires.placed)
    (subst (λ (s : AheadView _). IsCountedOver g.S.Stable s) (sym c.self.view_is) c.requires.counted)
    (subst (λ (s : AheadView _). ¬ (slice_get s.ahead 0 ≡ Some c.args.entry.now)) (sym c.self.view_is)
    c.requires.another)
    (subst (λ (n : ℕ). TakesOut g.S.Stable it.store n (Ok tt) c.withdraw.new.self) c.left-left.ensures
    (record {
      same = c.in-Ok.ensures.same;
      withdraws = c.in-Ok.ensures.withdraws;
      moved = c.in-Ok.ensures.moved;
      doubted = c.in-Ok.ensures.doubted;
      counts = c.in-Ok.ensures.counts;
      trust = c.in-Ok.ensures.trust;
    }))
    (record {
      answers = c.store.ensures.answers;
      placed = c.store.ensures.placed;
      same = c.store.ensures.same;
      counted = λ honest. sym c.next-next.ensures.value ∙ c.next-next.ensures.counted honest;
      appended = c.store.ensures.appended;
      doubted = c.store.ensures.doubted;
      stop = c.store.ensures.stop;
      rest = c.store.ensures.rest;
      counts = c.store.ensures.counts;
      trust = c.store.ensures.trust;
      ahead = c.store.ensures.ahead;
    }))

pub returns-in-Err : goal.returns-in-Err
returns-in-Err g c =
    let it = c.self.inside in
    let some : 0 < length it.queue.left =
    subst (λ (s : AheadView _). 0 < length s.ahead) (sym c.self.view_is) c.requires.some in
    let held : it.failing ≡ false =
    subst (λ (s : AheadView _). s.failing ≡ false) (sym c.self.view_is) c.requires.held in
    rw (← c.self.view_is, c.count_failure.ensures.fault, c.count_failure.ensures.count)
    (refuses-another g.S.Stable it.store c.withdraw.new.self
    it.start.value (g.S.Stable.certain it.start.value ++ it.queue.taken)
    it.queue.left it.failing it.spent it.failures c.args.pos c.args.entry.now c.in-Err.field-0
    c.self.invariant held some
    (subst (λ (s : AheadView _). is_out_of_place (needs_retrieve g.S.Stable s)
    (next_place g.S.Stable s) c.args.pos ≡ false) (sym c.self.view_is) c.requires.placed)
    (subst (λ (s : AheadView _). IsCountedOver g.S.Stable s) (sym c.self.view_is) c.requires.counted)
    (subst (λ (s : AheadView _). ¬ (slice_get s.ahead 0 ≡ Some c.args.entry.now)) (sym c.self.view_is)
    c.requires.another)
    (subst (λ (n : ℕ). TakesOut g.S.Stable it.store n (Err c.in-Err.field-0) c.withdraw.new.self) c.left-left.ensures
    (record {
      same = c.in-Err.ensures.same;
      withdraws = c.in-Err.ensures.withdraws;
      moved = c.in-Err.ensures.moved;
      doubted = c.in-Err.ensures.doubted;
      counts = c.in-Err.ensures.counts;
      trust = c.in-Err.ensures.trust;
    })))
