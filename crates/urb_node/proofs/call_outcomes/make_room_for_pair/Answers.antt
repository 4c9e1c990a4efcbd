use Rattle.urb_node.proofs.JoinedLayers.{room-kept}
use Rattle.urb_node.proofs.call_outcomes.make_room_for_pair.Goals as goal

pub returns-clause-kept : goal.returns-clause-kept
returns-clause-kept g c =
    room-kept c.args.held.now c.reserve.new.self c.reserve-2.new.self c.reserve-3.new.self
    c.args.name c.args.client c.requires.kept c.in_ok-reserve.ensures.ok
    c.in_ok-reserve-2.ensures.ok c.in_ok-reserve-3.ensures.ok
