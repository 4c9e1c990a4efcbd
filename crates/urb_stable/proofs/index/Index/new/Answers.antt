use Rattle.urb_stable.proofs.IndexGrowth.{index-none}
use Rattle.urb_stable.proofs.index.Index.new.Goals as goal

pub loop-place-init : goal.loop-place-init
loop-place-init g c = index-none _ _ c.new.ensures.empty c.new-2.ensures.items
