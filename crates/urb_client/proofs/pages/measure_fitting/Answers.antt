use Rattle.urb_client.proofs.Common.{ENTRY_HEAD, LONGEST_FRAME, ap, arith, length, nil_from_length}
use Rattle.urb_client.proofs.Common.{refl, take, ℕ, ◌+◌, ◌<◌, ◌≡◌}
use Rattle.urb_client.proofs.PageLists.{no_more, size, size-more}
use Rattle.urb_client.proofs.pages.measure_fitting.Goals as goal

pub loop-message-init : goal.loop-message-init
loop-message-init g c = record { count = refl; used = refl; room = omega arith }

pub loop-message-preserved : goal.loop-message-preserved
loop-message-preserved g c =
    let next =
    size-more c.args.entries.now c.loop-message.message-index c.loop-message-item.result
    c.loop-message-test.true c.loop-message-item.is in
    let long : length c.payload.result.now ≡ length c.loop-message-item.result.1.payload =
    ap length c.payload.ensures.value in
    record {
      count = omega (arith, c.loop-message.invariant.count);
      used = omega (arith, c.loop-message.invariant.used, next, long);
      room = c.if-used-size-gt-LONGEST_FRAME.false;
    }

pub returns-then-used-size-gt-LONGEST_FRAME-clause-within :
    goal.returns-then-used-size-gt-LONGEST_FRAME-clause-within
returns-then-used-size-gt-LONGEST_FRAME-clause-within g c =
    omega (arith, c.loop-message.invariant.count, c.loop-message-test.true)

pub returns-then-used-size-gt-LONGEST_FRAME-clause-bytes :
    goal.returns-then-used-size-gt-LONGEST_FRAME-clause-bytes
returns-then-used-size-gt-LONGEST_FRAME-clause-bytes g c =
    let same = ap (λ (k : ℕ). size (take k c.args.entries.now)) c.loop-message.invariant.count in
    omega (arith, same, c.loop-message.invariant.used)

pub returns-then-used-size-gt-LONGEST_FRAME-clause-fits :
    goal.returns-then-used-size-gt-LONGEST_FRAME-clause-fits
returns-then-used-size-gt-LONGEST_FRAME-clause-fits g c = c.loop-message.invariant.room

pub returns-then-used-size-gt-LONGEST_FRAME-clause-longest :
    goal.returns-then-used-size-gt-LONGEST_FRAME-clause-longest
returns-then-used-size-gt-LONGEST_FRAME-clause-longest g c = λ count few fits.
    let next =
    size-more c.args.entries.now c.loop-message.message-index c.loop-message-item.result
    c.loop-message-test.true c.loop-message-item.is in
    let long : length c.payload.result.now ≡ length c.loop-message-item.result.1.payload =
    ap length c.payload.ensures.value in
    let over : LONGEST_FRAME < c.loop-message.used
    + (ENTRY_HEAD + length c.loop-message-item.result.1.payload) =
    omega (arith, long, c.if-used-size-gt-LONGEST_FRAME.true) in
    omega (
      arith,
      c.loop-message.invariant.count,
      no_more c.args.entries.now c.loop-message.message-index c.loop-message.used _
          c.loop-message.invariant.used next over count fits,
    )

pub returns-then-used-size-gt-LONGEST_FRAME-clause-some :
    goal.returns-then-used-size-gt-LONGEST_FRAME-clause-some
returns-then-used-size-gt-LONGEST_FRAME-clause-some g c = λ none.
    let first : c.loop-message.message-index ≡ 0 =
    omega (arith, none, c.loop-message.invariant.count) in
    let same = ap (λ (k : ℕ). size (take k c.args.entries.now)) first in
    absurd (omega (
      arith,
      same,
      c.loop-message.invariant.used,
      c.if-used-size-gt-LONGEST_FRAME.true,
      c.payload.ensures.limit,
      ap length c.payload.ensures.value,
    ))

pub returns-clause-within : goal.returns-clause-within
returns-clause-within g c =
    omega (arith, c.loop-message.invariant.count, c.loop-message.auto.message-index-end)

pub returns-clause-bytes : goal.returns-clause-bytes
returns-clause-bytes g c =
    let same = ap (λ (k : ℕ). size (take k c.args.entries.now)) c.loop-message.invariant.count in
    omega (arith, same, c.loop-message.invariant.used)

pub returns-clause-fits : goal.returns-clause-fits
returns-clause-fits g c = c.loop-message.invariant.room

pub returns-clause-longest : goal.returns-clause-longest
returns-clause-longest g c =
    λ count few fits. omega (arith, few, c.loop-message.invariant.count, c.loop-message-test.false)

pub returns-clause-some : goal.returns-clause-some
returns-clause-some g c =
    λ none. nil_from_length c.args.entries.now
    (omega (arith, none, c.loop-message.invariant.count, c.loop-message-test.false))
