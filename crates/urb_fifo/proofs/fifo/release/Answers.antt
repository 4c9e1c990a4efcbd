use Rattle.std.proofs.Common.{arith, append_assoc}
use Rattle.urb_fifo.proofs.NameRows.{row_next}
use Rattle.urb_fifo.proofs.fifo.release.Goals as goal

pub loop-seq-preserved : goal.loop-seq-preserved
loop-seq-preserved g c =
    let inv = c.loop-seq.invariant in
    let next = row_next c.args.sender c.loop-seq.seq c.args.end c.loop-seq-test.true in
    record {
      log = rw (c.push_reserved.ensures.items, append_assoc) (rw next at inv.log);
      len = omega (arith, inv.len, c.push_reserved.ensures.len);
      room = omega (arith, inv.room, c.push_reserved.ensures.len, c.push_reserved.ensures.capacity);
    }
