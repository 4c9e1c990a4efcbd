use Rattle.urb_feed.proofs.Common.{ap, arith, inl, inr, name, needed, needed_of, offers, suc, sym}
use Rattle.urb_feed.proofs.Common.{◌++◌, ◌+◌, ◌-◌, ◌∙◌, ◌≡◌}
use Rattle.urb_feed.proofs.NumberedLists.{more, no_more}
use Rattle.urb_feed.proofs.SkippedNumbers.{needs_all, needs_none}
use Rattle.urb_feed.proofs.offers.push_needed_of.Goals.{else-delivered-seq}
use Rattle.urb_feed.proofs.offers.push_needed_of.Goals.{else-delivered-seq-via-else-delivered-seq}
use Rattle.urb_feed.proofs.offers.push_needed_of.Goals.{else-delivered-seq-via-then-delivered-seq+else-seq-own}
use Rattle.urb_feed.proofs.offers.push_needed_of.Goals.{then-delivered-seq+then-seq-own+in_ok-push_offers}
use Rattle.urb_feed.proofs.offers.push_needed_of.Goals as goal

pub loop-before-preserved : goal.loop-before-preserved
loop-before-preserved g c w shows =
    let q = c.args.target in
    let s = c.args.row.sender in
    let k = c.loop-before.before - c.args.from in
    let j = c.loop-before.before + 1 in
    let old = c.args.packets.now.items in
    let row = c.requires.row w shows in
    let here : j ≡ suc c.args.from + k = omega arith in
    let next : j - c.args.from ≡ k + 1 = omega arith in
    let before = c.loop-before.invariant w shows in
    elim c.if-delivered-seq.branch [
      | then-delivered-seq+then-seq-own+in_ok-push_offers v ↦
          let all =
          needs_all w q s c.args.row.own c.args.row.delivered j row (omega arith)
          v.if-delivered-seq.true v.if-seq-own.true in
          rw v.packets-is
          (v.in_ok-push_offers.ensures w shows
          ∙ (ap (λ xs. xs ++ offers w q (name s j)) before
          ∙ (ap (λ xs. (old ++ needed_of w q (suc c.args.from) k s) ++ xs) (sym all)
          ∙ more (λ n. needed w q (name s n)) (suc c.args.from) k j (j - c.args.from) old here
          next)))
      | else-delivered-seq v ↦
          let none =
          needs_none w q s c.args.row.own c.args.row.delivered j row (omega arith)
          (elim v.else-delivered-seq.branch [
            | else-delivered-seq-via-then-delivered-seq+else-seq-own u ↦ inr u.if-seq-own.false
            | else-delivered-seq-via-else-delivered-seq u ↦ inl u.if-delivered-seq.false
          ]) in
          rw v.packets-is
          (before ∙ no_more (λ n. needed w q (name s n)) (suc c.args.from) k j (j - c.args.from)
          old here next none)
    ]

pub returns : goal.returns
returns g c w shows =
    let end : c.loop-before.before ≡ c.args.upto = omega arith in
    c.loop-before.invariant w shows
    ∙ ap (λ n. c.args.packets.now.items
    ++ needed_of w c.args.target (suc c.args.from) (n - c.args.from) c.args.row.sender) end
