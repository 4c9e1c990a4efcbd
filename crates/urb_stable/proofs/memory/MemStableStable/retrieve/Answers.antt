use Rattle.urb_stable.proofs.Common.{Memory, None, ap, arith, false, length, refl, slice_get, take}
use Rattle.urb_stable.proofs.Common.{with_doubt, ◌+◌, ◌∙◌, ◌≡◌, ◌≤◌}
use Rattle.urb_stable.specs.internal.MemoryCalls.{retrieved}
use Rattle.urb_stable.proofs.AppendedElements.{whole}
use Rattle.urb_stable.proofs.memory.MemStableStable.retrieve.Goals as goal

pub returns-clause-retrieved : goal.returns-clause-retrieved
returns-clause-retrieved g c =
    let below : c.self.inside.certain ≤ length c.self.inside.records.items =
    omega (arith, c.self.invariant.below, c.self.inside.records.ok.0) in
    let one : length c.self.inside.records.items ≤ c.self.inside.certain + 1 =
    omega (arith, c.self.invariant.one, c.self.inside.records.ok.0) in
    let k = whole c.self.inside.records.items c.self.inside.certain below one in
    let size : c.len.result ≡ length c.self.inside.records.items =
    c.len.ensures ∙ c.self.inside.records.ok.0 in
    let items = c.in_ok-records.ensures ∙ c.deref.ensures.value in
    record { given = rw (items, size, ← c.self.view_is) (k.all, k.contents); failed = tt }

pub returns-clause-settled : goal.returns-clause-settled
returns-clause-settled g c =
    let below : c.self.inside.certain ≤ length c.self.inside.records.items =
    omega (arith, c.self.invariant.below, c.self.inside.records.ok.0) in
    let one : length c.self.inside.records.items ≤ c.self.inside.certain + 1 =
    omega (arith, c.self.invariant.one, c.self.inside.records.ok.0) in
    let k = whole c.self.inside.records.items c.self.inside.certain below one in
    let size : c.len.result ≡ length c.self.inside.records.items =
    c.len.ensures ∙ c.self.inside.records.ok.0 in
    let items = c.in_ok-records.ensures ∙ c.deref.ensures.value in
    record { clear = (refl, rw size k.nothing); kept = tt }

pub returns-clause-stop : goal.returns-clause-stop
returns-clause-stop g c =
    let below : c.self.inside.certain ≤ length c.self.inside.records.items =
    omega (arith, c.self.invariant.below, c.self.inside.records.ok.0) in
    let one : length c.self.inside.records.items ≤ c.self.inside.certain + 1 =
    omega (arith, c.self.invariant.one, c.self.inside.records.ok.0) in
    let k = whole c.self.inside.records.items c.self.inside.certain below one in
    let size : c.len.result ≡ length c.self.inside.records.items =
    c.len.ensures ∙ c.self.inside.records.ok.0 in
    let items = c.in_ok-records.ensures ∙ c.deref.ensures.value in
    λ records h. rw (rw (size, k.nothing, k.all) at h, ← c.self.view_is) k.contents

pub returns-clause-answers : goal.returns-clause-answers
returns-clause-answers g c =
    let below : c.self.inside.certain ≤ length c.self.inside.records.items =
    omega (arith, c.self.invariant.below, c.self.inside.records.ok.0) in
    let one : length c.self.inside.records.items ≤ c.self.inside.certain + 1 =
    omega (arith, c.self.invariant.one, c.self.inside.records.ok.0) in
    let k = whole c.self.inside.records.items c.self.inside.certain below one in
    let items = c.in_ok-records.ensures ∙ c.deref.ensures.value in
    items ∙ k.whole ∙ ap (λ (m : Memory). with_doubt m.certain m.doubt) c.self.view_is

pub returns-clause-all : goal.returns-clause-all
returns-clause-all g c =
    let below : c.self.inside.certain ≤ length c.self.inside.records.items =
    omega (arith, c.self.invariant.below, c.self.inside.records.ok.0) in
    let one : length c.self.inside.records.items ≤ c.self.inside.certain + 1 =
    omega (arith, c.self.invariant.one, c.self.inside.records.ok.0) in
    let k = whole c.self.inside.records.items c.self.inside.certain below one in
    let size : c.len.result ≡ length c.self.inside.records.items =
    c.len.ensures ∙ c.self.inside.records.ok.0 in
    let all : take c.len.result c.self.inside.records.items ≡ with_doubt
    (take c.self.inside.certain c.self.inside.records.items)
    (slice_get c.self.inside.records.items c.self.inside.certain) = rw size (k.all ∙ k.whole) in
    let nothing : slice_get c.self.inside.records.items c.len.result ≡ None = rw size k.nothing in
    (λ i. record {
      certain = all i;
      doubt = nothing i;
      doubtful = false;
      failures =
          c.self.inside.failures;
      armed = c.self.inside.armed;
    }) ∙ ap retrieved c.self.view_is
