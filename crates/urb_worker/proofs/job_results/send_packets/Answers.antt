use Rattle.std.proofs.Common.{sym}
use Rattle.urb_worker.proofs.SentPackets.{sends_next, sends_past}
use Rattle.urb_worker.proofs.job_results.send_packets.Goals as goal
use Rattle.urb_worker.proofs.job_results.send_packets.Goals.{in-Some, in-None}

pub loop-index-preserved : goal.loop-index-preserved
loop-index-preserved g c =
    elim c.match-get.branch [
      | in-Some w ↦
          rw w.outlets-is
          (sends_next c.args.outlets.now c.loop-index.outlets w.send_packet.new.outlets
          c.args.packets.now c.loop-index.index w.in-Some.packet.now
          (sym (rw w.in-Some.is at c.get.ensures)) c.loop-index.invariant w.send_packet.ensures)
      | in-None w ↦
          rw w.outlets-is
          (sends_past c.args.outlets.now c.loop-index.outlets c.args.packets.now c.loop-index.index
          (sym (rw w.in-None.is at c.get.ensures)) c.loop-index.invariant)
    ]
