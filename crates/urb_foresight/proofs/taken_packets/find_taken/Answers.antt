use Rattle.std.proofs.Common.{false, refl, sym, true, ◌∙◌}
use Rattle.urb_foresight.proofs.HeldPackets.{borne-out-if, holds-none, holds-same}
use Rattle.urb_foresight.proofs.taken_packets.find_taken.Goals as goal

pub returns-in_err-message-clause-taken : goal.returns-in_err-message-clause-taken
returns-in_err-message-clause-taken g c w shows kept =
    rw c.from_residual.ensures
    (borne-out-if w c.args.packet.now false _
    (holds-none c.args.group.now w shows c.args.packet.now.source c.args.packet.now.name
    c.args.packet.now.message
    ((rw (c.source.ensures, c.name.ensures) at c.in_err-message.ensures) w shows)) refl)

pub returns-then-not-is_carried-clause-taken : goal.returns-then-not-is_carried-clause-taken
returns-then-not-is_carried-clause-taken g c w shows kept =
    borne-out-if w c.args.packet.now false _
    (sym c.if-not-is_carried.true
    ∙ holds-same c.args.group.now w shows c.args.packet.now.source c.args.packet.now.name
    c.is_carried.result c.in_ok-message.message.now c.args.packet.now.message
    ((rw (c.source.ensures, c.name.ensures) at c.in_ok-message.ensures) w shows)
    c.is_carried.ensures) refl

pub is_as_certified-requires : goal.is_as_certified-requires
is_as_certified-requires g c w shows =
    sym (holds-same c.args.group.now w shows c.args.packet.now.source c.args.packet.now.name
    true c.in_ok-message.message.now c.in_ok-message.message.now
    ((rw (c.source.ensures, c.name.ensures) at c.in_ok-message.ensures) w shows) refl)

pub returns-then-not-is_as_certified-clause-taken :
    goal.returns-then-not-is_as_certified-clause-taken
returns-then-not-is_as_certified-clause-taken g c w shows kept =
    borne-out-if w c.args.packet.now true false
    (sym c.if-not-is_carried.false
    ∙ holds-same c.args.group.now w shows c.args.packet.now.source c.args.packet.now.name
    c.is_carried.result c.in_ok-message.message.now c.args.packet.now.message
    ((rw (c.source.ensures, c.name.ensures) at c.in_ok-message.ensures) w shows)
    c.is_carried.ensures)
    (sym c.if-not-is_as_certified.true ∙ c.is_as_certified.ensures w shows kept)

pub returns-clause-taken : goal.returns-clause-taken
returns-clause-taken g c w shows kept =
    borne-out-if w c.args.packet.now true true
    (sym c.if-not-is_carried.false
    ∙ holds-same c.args.group.now w shows c.args.packet.now.source c.args.packet.now.name
    c.is_carried.result c.in_ok-message.message.now c.args.packet.now.message
    ((rw (c.source.ensures, c.name.ensures) at c.in_ok-message.ensures) w shows)
    c.is_carried.ensures)
    (sym c.if-not-is_as_certified.false ∙ c.is_as_certified.ensures w shows kept)
