use Rattle.urb_node.proofs.Common.{AckSet, None, Some, [], acked, ap, arith, counted_with, has_name}
use Rattle.urb_node.proofs.Common.{length, rules, slice_get, ◌<◌, ◌∙◌, ◌≡◌}
use Rattle.urb_node.proofs.ImagePairs.{counted_more, none_left}
use Rattle.urb_node.proofs.image_verdict.count_itself.Goals.{in-Some+in_ok-note, in_default}
use Rattle.urb_node.proofs.image_verdict.count_itself.Goals as goal

pub loop-index-preserved : goal.loop-index-preserved
loop-index-preserved g c = elim c.match-get.branch [
  | in-Some+in_ok-note w ↦
      let got : slice_get c.args.pending.now.pairs c.loop-index.index ≡ Some
      (w.in-Some.name, w.in-Some._message.now) = search rules in
      let counted : w.note.new.acks.counted
      ≡ counted_with c.loop-index.acks.counted w.in-Some.name c.args.node = search rules in
      record {
        limits =
            ap (λ (a : AckSet). a.limits) w.acks-is
            ∙ (w.in_ok-note.ensures.ok.1 ∙ c.loop-index.invariant.limits);
        certified =
            ap (λ (a : AckSet). a.certified) w.acks-is
            ∙ (w.in_ok-note.ensures.ok.2 ∙ c.loop-index.invariant.certified);
        counted =
            counted_more c.loop-index.acks.counted c.match-get.acks.counted c.args.node
            c.args.pending.now.pairs c.loop-index.index (w.in-Some.name, w.in-Some._message.now)
            (acked c.args.acks.now.counted) got
            (ap (λ (a : AckSet). a.counted) w.acks-is ∙ counted) c.loop-index.invariant.counted;
      }
  | in_default w ↦
      let less : c.loop-index.index < length c.args.pending.now.pairs = omega arith in
      let none : slice_get c.args.pending.now.pairs c.loop-index.index ≡ None = search rules in
      absurd (none_left (λ pair. has_name [] pair.0)
      c.args.pending.now.pairs c.loop-index.index less none)
]
