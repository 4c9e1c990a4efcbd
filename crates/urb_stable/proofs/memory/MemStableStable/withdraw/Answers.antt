use Rattle.urb_stable.proofs.Common.{None, arith, drop, length, refl, slice_get, sym, take, ◌-◌, ◌∙◌, ◌≡◌, ◌≤◌}
use Rattle.urb_stable.proofs.ShortenedLists.{shortened}
use Rattle.urb_stable.proofs.memory.MemStableStable.withdraw.Goals as goal

pub returns-clause-withdrawn : goal.returns-clause-withdrawn
returns-clause-withdrawn g c =
    let xs = c.self.inside.records.items in
    let settled : length xs ≡ c.self.inside.certain =
    omega (arith, c.self.invariant.settled c.if-self.false, c.self.inside.records.ok.0) in
    let size : c.len-2.result ≡ length xs = c.len-2.ensures ∙ c.self.inside.records.ok.0 in
    let fits : c.args.count ≤ length xs =
    omega (arith, c.if-len-count.false, c.len.ensures, c.self.inside.records.ok.0) in
    let k = shortened (length xs - c.args.count) xs (omega arith) in
    rw (← c.self.view_is, size, c.truncate.ensures.items, size) (record {
      taken = (
        drop (length xs - c.args.count) xs,
        rw (← settled) (k.whole ∙ k.all),
        k.others ∙ omega (arith, fits),
      );
      failed = tt;
    })

pub returns-clause-doubted : goal.returns-clause-doubted
returns-clause-doubted g c =
    let xs = c.self.inside.records.items in
    let settled : length xs ≡ c.self.inside.certain =
    omega (arith, c.self.invariant.settled c.if-self.false, c.self.inside.records.ok.0) in
    let size : c.len-2.result ≡ length xs = c.len-2.ensures ∙ c.self.inside.records.ok.0 in
    let k = shortened (length xs - c.args.count) xs (omega arith) in
    rw (← c.self.view_is, size, c.truncate.ensures.items, size) (record {
      doubtful = refl;
      left = k.nothing ∙ sym (rw (← settled) k.past);
    })

pub returns-clause-exact : goal.returns-clause-exact
returns-clause-exact g c =
    let xs = c.self.inside.records.items in
    let settled : length xs ≡ c.self.inside.certain =
    omega (arith, c.self.invariant.settled c.if-self.false, c.self.inside.records.ok.0) in
    let size : c.len-2.result ≡ length xs = c.len-2.ensures ∙ c.self.inside.records.ok.0 in
    let k = shortened (length xs - c.args.count) xs (omega arith) in
    let none : c.self.inside.armed ≡ None = sym c.take.ensures.value ∙ c.in_default.is in
    let before : take c.self.inside.certain xs ≡ xs = rw (← settled) k.whole in
    let front : take (length xs - c.args.count) (take (length xs - c.args.count) xs)
    ≡ take (length (take c.self.inside.certain xs) - c.args.count) (take c.self.inside.certain xs) =
    rw before k.front in
    let left : slice_get (take (length xs - c.args.count) xs) (length xs - c.args.count)
    ≡ slice_get xs c.self.inside.certain = k.nothing ∙ sym (rw (← settled) k.past) in
    λ as_many. rw (← c.self.view_is) (record {
      unarmed = λ was. (
        refl,
        rw (size, c.truncate.ensures.items, size, c.take.ensures.after, none) (λ i. record {
          certain = front i;
          doubt = left i;
          doubtful = c.self.inside.doubtful;
          failures = c.self.inside.failures;
          armed = None;
        }),
      );
      keeps_all = rw none tt;
      uncounted = rw none tt;
    })
