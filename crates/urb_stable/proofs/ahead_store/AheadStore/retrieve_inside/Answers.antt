use Rattle.std.proofs.Common.{length, subst, sym, ◌++◌, ◌≡◌}
use Rattle.urb_stable.specs.AheadStores.{AheadView}
use Rattle.urb_stable.proofs.AheadStores.{gives-inside}
use Rattle.urb_stable.proofs.ahead_store.AheadStore.retrieve_inside.Goals as goal

pub returns : goal.returns
returns g c =
    let it = c.self.inside in
    let none : length it.queue.left ≡ 0 =
    subst (λ (s : AheadView _). length s.ahead ≡ 0) (sym c.self.view_is) c.requires in
    rw (← c.self.view_is) (gives-inside g.S.Stable it.store c.retrieve.new.self it.start.value
    (g.S.Stable.certain it.start.value ++ it.queue.taken) it.queue.left it.failing it.spent
    it.failures _
    c.self.invariant none (record {
      answers = c.retrieve.ensures.answers;
      retrieved = c.retrieve.ensures.retrieved;
      settled = c.retrieve.ensures.settled;
      allowed = c.retrieve.ensures.allowed;
      stop = c.retrieve.ensures.stop;
      rest = c.retrieve.ensures.rest;
      counts = c.retrieve.ensures.counts;
      trust = c.retrieve.ensures.trust;
      refuses = c.retrieve.ensures.refuses;
      lasts = c.retrieve.ensures.lasts;
      ahead = c.retrieve.ensures.ahead;
    }))
