use Rattle.urb_stable.proofs.Common.{Entry, List, ap, ◌+◌}
use Rattle.urb_stable.proofs.ReadImages.{read-more}
use Rattle.urb_stable.proofs.fitting.Images.new.Goals as goal

pub loop-i-preserved : goal.loop-i-preserved
loop-i-preserved g c =
    read-more (λ image. image.items)
    c.args.images.now c.loop-i.i c.index-images-i.result c.loop-i.read.items
    c.read_next.new.read.items
    (record { number = c.loop-i.i + 1; records = c.deref.result.now }) c.loop-i-test.true
    c.index-images-i.is
    (ap (λ (rs : List Entry).
    record { number = c.loop-i.i + 1; records = rs }) c.deref.ensures.value)
    c.in_ok-read_next.ensures c.loop-i.invariant
