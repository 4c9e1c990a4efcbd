use Rattle.std.proofs.Common.{arith}
use Rattle.urb_script.proofs.HexWords.{decode_more}
use Rattle.urb_script.proofs.hex.HexBytes.decode.Goals as goal

pub loop-at-preserved : goal.loop-at-preserved
loop-at-preserved g c =
    rw c.in_ok-push.ensures.items
    (decode_more c.loop-at.bytes.items c.self.inside.digits.now c.loop-at.at c.byte_of.result
    (omega arith) c.byte_of.ensures c.loop-at.invariant)
