use Rattle.urb_script.proofs.Common.{answer_text, rules}
use Rattle.urb_script.proofs.ListTexts.{one_more}
use Rattle.urb_script.proofs.reply_lines.push_answer_packets.Goals as goal

pub loop-at-preserved : goal.loop-at-preserved
loop-at-preserved g c =
    rw c.in_ok-push_answer_packet.ensures
    (one_more answer_text c.loop-at.text.items _ c.args.packets.now c.loop-at.at
    c.unwrap.result.now (search rules) c.loop-at.invariant)
