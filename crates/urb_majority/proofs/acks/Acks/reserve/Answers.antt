use Rattle.std.proofs.Common.{refl}
use Rattle.urb_majority.proofs.PromisedSpace.{kept_bigger}
use Rattle.urb_majority.proofs.acks.Acks.reserve.Goals as goal

-- the allocation for the certificates was refused
pub invariant_of-self : goal.invariant_of-self
invariant_of-self g c =
    kept_bigger c.self.inside _ refl refl c.make_room.ensures.names c.in_err-make_room.ensures.err
    c.self.invariant

-- the allocation for the masks was refused
pub invariant_of-self-in_err-reserve : goal.invariant_of-self-in_err-reserve
invariant_of-self-in_err-reserve g c =
    kept_bigger c.self.inside _ refl c.in_err-reserve.ensures.err c.make_room.ensures.names
    (λ room. c.in_ok-make_room.ensures.ok) c.self.invariant
