use Rattle.urb_script.proofs.Common.{drop, flat_map, packet_text, ◌++◌, ◌≡◌}
use Rattle.urb_script.proofs.reply_lines.push_packets.Given as goal

-- what is written so far, and what is left
abbrev pub invariant-loop-at : goal.invariant-loop-at
invariant-loop-at g l =
    l.text.items ++ flat_map packet_text (drop l.at l.packets) ≡ l.fn.text.items
    ++ flat_map packet_text l.packets
