use Rattle.std.proofs.Common.{rules}
use Rattle.urb_client.proofs.FullReads.{filled_more}
use Rattle.urb_client.proofs.full_read.read_full.Goals as goal

pub loop-filled-preserved : goal.loop-filled-preserved
loop-filled-preserved g c = record {
  within = search rules;
  bytes =
      filled_more _ _ _ _ _ _ _ _ (search rules)
      c.in_ok-n.ensures.bound c.loop-filled.invariant.bytes c.in_ok-n.ensures.bytes;
}
