use Rattle.std.proofs.Common.{arith, inl, inr, rules, ◌≡◌}
use Rattle.urb_feed.proofs.SkippedNumbers.{one_more}
use Rattle.urb_feed.proofs.feed.skip_whole.Goals as goal
use Rattle.urb_feed.proofs.feed.skip_whole.Goals.{else-done-row, then-done-row+then-done-from}
use Rattle.urb_feed.proofs.feed.skip_whole.Goals.{else-done-row-via-else-done-row}
use Rattle.urb_feed.proofs.feed.skip_whole.Goals.{else-done-row-via-then-done-row+else-done-from}

pub loop-number-preserved : goal.loop-number-preserved
loop-number-preserved g c =
    let q = c.args.target in
    let i = c.loop-number.number in
    let row = c.row_of-row.result in
    let before = c.loop-number.invariant in
    let node : c.unwrap.result ≡ i = search rules in
    let done = c.max-done.ensures in
    elim c.if-done-row.branch [
      | then-done-row+then-done-from v ↦ rw v.from-is (record {
        low = omega (arith, done);
        high = omega (arith, v.if-done-from.true, before.high);
        none = λ w shows.
            one_more w q i c.unwrap.result row.own row.delivered c.args.after c.max-done.result
            node (c.row_of-row.ensures.row w shows) (inr (omega (arith, done)))
            (λ s j a b l h.
            before.none w shows s j a b l (omega (arith, h, v.if-done-from.true)));
      })
      | else-done-row v ↦ rw v.from-is (record {
        low = before.low;
        high = before.high;
        none = λ w shows.
            one_more w q i c.unwrap.result row.own row.delivered c.args.after c.loop-number.from
            node (c.row_of-row.ensures.row w shows)
            (elim v.else-done-row.branch [
              | else-done-row-via-then-done-row+else-done-from u ↦
                  inr (omega (arith, done, u.if-done-from.false))
              | else-done-row-via-else-done-row u ↦
                  inl (omega (arith, done, u.if-done-row.false))
            ])
            (before.none w shows);
      })
    ]
