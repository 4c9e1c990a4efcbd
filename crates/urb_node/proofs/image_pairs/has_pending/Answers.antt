use Rattle.urb_node.proofs.Common.{None, Some, arith, false, has_pair, length, pend, rules}
use Rattle.urb_node.proofs.Common.{slice_get, true, ◌<◌, ◌≡◌}
use Rattle.urb_node.proofs.ImagePairs.{none_left, one_more, one_not}
use Rattle.urb_node.proofs.image_pairs.has_pending.Goals.{in-Some+else-not-has, in_default}
use Rattle.urb_node.proofs.image_pairs.has_pending.Goals as goal

pub returns-then-not-has : goal.returns-then-not-has
returns-then-not-has g c =
    let got : slice_get c.args.pending.now.pairs c.loop-index.index ≡ Some
    (c.in-Some.name, c.in-Some.message.now) = search rules in
    let not : has_pair (pend c.args.image.now) c.in-Some.name c.in-Some.message.now ≡ false =
    search rules in
    one_not (λ pair. has_pair (pend c.args.image.now) pair.0 pair.1)
    c.args.pending.now.pairs c.loop-index.index
    (c.in-Some.name, c.in-Some.message.now) got not c.loop-index.invariant

pub loop-index-preserved : goal.loop-index-preserved
loop-index-preserved g c = elim c.match-get.branch [
  | in-Some+else-not-has w ↦
      let got : slice_get c.args.pending.now.pairs c.loop-index.index ≡ Some
      (w.in-Some.name, w.in-Some.message.now) = search rules in
      let has : has_pair (pend c.args.image.now) w.in-Some.name w.in-Some.message.now ≡ true =
      search rules in
      one_more (λ pair. has_pair (pend c.args.image.now) pair.0 pair.1)
      c.args.pending.now.pairs c.loop-index.index
      (w.in-Some.name, w.in-Some.message.now) got has c.loop-index.invariant
  | in_default w ↦
      let less : c.loop-index.index < length c.args.pending.now.pairs = omega arith in
      let none : slice_get c.args.pending.now.pairs c.loop-index.index ≡ None = search rules in
      absurd (none_left (λ pair. has_pair (pend c.args.image.now) pair.0 pair.1)
      c.args.pending.now.pairs c.loop-index.index less none)
]
