use Rattle.std.proofs.Common.{arith, false, length, subst, sym, take, ◌++◌, ◌-◌, ◌<◌, ◌≡◌}
use Rattle.urb_stable.specs.AheadStores.{AheadView}
use Rattle.urb_stable.proofs.AheadStores.{fails-less, gives-less}
use Rattle.urb_stable.proofs.ahead_store.AheadStore.retrieve_less.Goals as goal

pub returns-in-Err : goal.returns-in-Err
returns-in-Err g c =
    let it = c.self.inside in
    let some : 0 < length it.queue.left =
    subst (λ (s : AheadView _). 0 < length s.ahead) (sym c.self.view_is) c.requires.some in
    let held : it.failing ≡ false =
    subst (λ (s : AheadView _). s.failing ≡ false) (sym c.self.view_is) c.requires.held in
    rw (← c.self.view_is) (fails-less g.S.Stable it.store c.retrieve.new.self it.start.value
    (g.S.Stable.certain it.start.value ++ it.queue.taken) it.queue.left it.failing it.spent it.failures
    c.in-Err.fault c.self.invariant some held (record {
      answers = c.in-Err.ensures.answers;
      retrieved = c.in-Err.ensures.retrieved;
      settled = c.in-Err.ensures.settled;
      allowed = c.in-Err.ensures.allowed;
      stop = c.in-Err.ensures.stop;
      rest = c.in-Err.ensures.rest;
      counts = c.in-Err.ensures.counts;
      trust = c.in-Err.ensures.trust;
      refuses = c.in-Err.ensures.refuses;
      lasts = c.in-Err.ensures.lasts;
      ahead = c.in-Err.ensures.ahead;
    }))

pub returns : goal.returns
returns g c =
    let it = c.self.inside in
    let some : 0 < length it.queue.left =
    subst (λ (s : AheadView _). 0 < length s.ahead) (sym c.self.view_is) c.requires.some in
    let held : it.failing ≡ false =
    subst (λ (s : AheadView _). s.failing ≡ false) (sym c.self.view_is) c.requires.held in
    let size : c.saturating_sub.result ≡ length c.in-Ok.whole.items - length it.queue.left =
    omega (arith, c.saturating_sub.ensures, c.len.ensures, c.in-Ok.whole.ok.0, c.left-left.ensures) in
    let items : c.truncate.new.self.items
    ≡ take (length c.in-Ok.whole.items - length it.queue.left) c.in-Ok.whole.items =
    rw (← size) c.truncate.ensures.items in
    rw (items, ← c.self.view_is) (gives-less g.S.Stable it.store c.retrieve.new.self it.start.value
    (g.S.Stable.certain it.start.value ++ it.queue.taken) it.queue.left it.failing it.spent it.failures
    c.in-Ok.whole.items c.self.invariant some held (record {
      answers = c.in-Ok.ensures.answers;
      retrieved = c.in-Ok.ensures.retrieved;
      settled = c.in-Ok.ensures.settled;
      allowed = c.in-Ok.ensures.allowed;
      stop = c.in-Ok.ensures.stop;
      rest = c.in-Ok.ensures.rest;
      counts = c.in-Ok.ensures.counts;
      trust = c.in-Ok.ensures.trust;
      refuses = c.in-Ok.ensures.refuses;
      lasts = c.in-Ok.ensures.lasts;
      ahead = c.in-Ok.ensures.ahead;
    }))
