use Rattle.urb_pending.proofs.PreservedFields.{roomier, roomier_same}
use Rattle.urb_pending.proofs.pending.Pending.reserve.Goals as goal

pub invariant_of-self : goal.invariant_of-self
invariant_of-self g c =
    roomier c.self.inside c.make_room_if.new.self c.self.invariant c.make_room_if.ensures.given
    c.make_room_if.ensures.kept

pub invariant_of-self-in_err-reserve : goal.invariant_of-self-in_err-reserve
invariant_of-self-in_err-reserve g c =
    roomier_same c.self.inside c.make_room_if.new.self c.self.invariant c.make_room_if.ensures.given
    c.make_room_if.ensures.kept c.reserve.new.self c.in_err-reserve.ensures.err
