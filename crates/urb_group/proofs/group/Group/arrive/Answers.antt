use Rattle.std.proofs.Common.{arith}
use Rattle.std.proofs.lemmas.Result.{err_from_is_err_and}
use Rattle.urb_names.specs.PacketGrammar.{packet_of}
use Rattle.urb_group.proofs.shown.NodeAnswers.{was_read}
use Rattle.urb_group.proofs.moves.PacketsAtNodes.{arrive-elsewhere, arrive-fault, arrive-moved}
use Rattle.urb_group.proofs.moves.PacketsAtNodes.{may_reach}
use Rattle.urb_group.proofs.group.Group.arrive.Goals as goal

pub returns-in_err-packet : goal.returns-in_err-packet
returns-in_err-packet g c =
    let p = err_from_is_err_and c.from_residual.result c.from_residual.ensures.1 in
    rw (p.1, p.2) (arrive-fault c.args.self.now c.args.node
    (packet_of c.args.bytes.now) c.in_err-packet.field-0.0 c.in_err-packet.ensures.exact)

pub returns-in_default : goal.returns-in_default
returns-in_default g c =
    rw (← c.self.view_is)
    (arrive-elsewhere c.self.inside.config c.self.inside.nodes.items c.args.node
    (packet_of c.args.bytes.now) c.in_ok-packet.packet c.in_ok-packet.ensures.exact
    c.in_default.ensures)

pub index-requires : goal.index-requires
index-requires g c =
    omega (
      arith,
      c.in-Some.ensures.source.1,
      c.self.invariant.placed.count,
      c.self.inside.nodes.ok.0,
    )

pub move_node-requires-clause-within : goal.move_node-requires-clause-within
move_node-requires-clause-within g c =
    omega (arith, c.in-Some.ensures.target.2, c.self.invariant.placed.count)

pub move_node-requires-clause-callable : goal.move_node-requires-clause-callable
move_node-requires-clause-callable g c node at =
    let from =
    was_read c.self.inside.nodes.items c.in-Some.source _ c.index.result.now
    c.self.invariant.placed.count c.in-Some.ensures.source.1 c.index.ensures in (
      may_reach c.self.invariant c.in-Some.ensures from
          c.confirm_packet-is_truthful.ensures.truth node at,
      c.confirm_packet-is_truthful.ensures.known,
    )

pub invariant_of-self : goal.invariant_of-self
invariant_of-self g c =
    let from =
    was_read c.self.inside.nodes.items c.in-Some.source _ c.index.result.now
    c.self.invariant.placed.count c.in-Some.ensures.source.1 c.index.ensures in
    (arrive-moved c.self.invariant c.in-Some.ensures from
    c.confirm_packet-is_truthful.ensures.truth c.move_node.ensures.moved
    (packet_of c.args.bytes.now) c.in_ok-packet.ensures.exact c.move_node.ensures.was
    c.move_node.ensures.back c.move_node.result c.move_node.ensures.step).1

pub returns : goal.returns
returns g c =
    let from =
    was_read c.self.inside.nodes.items c.in-Some.source _ c.index.result.now
    c.self.invariant.placed.count c.in-Some.ensures.source.1 c.index.ensures in
    rw (← c.self.view_is)
    (arrive-moved c.self.invariant c.in-Some.ensures from
    c.confirm_packet-is_truthful.ensures.truth c.move_node.ensures.moved
    (packet_of c.args.bytes.now) c.in_ok-packet.ensures.exact c.move_node.ensures.was
    c.move_node.ensures.back c.move_node.result c.move_node.ensures.step).0
