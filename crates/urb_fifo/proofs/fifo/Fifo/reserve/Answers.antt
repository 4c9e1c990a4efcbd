use Rattle.urb_fifo.proofs.Common.{Delivery, ap, map, name, newly_released, numbers_from, refl, suc}
use Rattle.urb_fifo.proofs.Common.{◌-◌, ◌∙◌, ◌≡◌}
use Rattle.urb_fifo.proofs.PromisedSpace.{kept_bigger, kept_reserved}
use Rattle.urb_fifo.proofs.fifo.Fifo.reserve.Goals as goal

pub invariant_of-self-2 : goal.invariant_of-self-2
invariant_of-self-2 g c =
    let from = c.range_released_by-from.result.0 in
    let end = c.range_released_by-from.result.1 in
    let names : newly_released c.self.inside.log.items c.self.inside.certified.names c.args.name
    ≡ map (name c.args.name.sender) (numbers_from (suc from) (end - from)) =
    ap (λ (d : Delivery). newly_released d.log d.certified c.args.name) c.self.view_is
    ∙ c.range_released_by-from.ensures.names in
    let log = c.in_ok-reserve.ensures in
    kept_reserved c.self.inside _ c.args.name from end names refl refl c.make_room.ensures.names
    c.in_ok-make_room.ensures.ok log.items log.ok c.self.invariant

pub invariant_of-self-in_err-make_room : goal.invariant_of-self-in_err-make_room
invariant_of-self-in_err-make_room g c =
    let log = c.reserve.ensures in
    kept_bigger c.self.inside _ refl refl c.make_room.ensures.names c.in_err-make_room.ensures.err
    log.items log.len log.capacity c.self.invariant

-- the allocation for the log was refused
pub invariant_of-self : goal.invariant_of-self
invariant_of-self g c =
    let grown = c.reserve.ensures in
    kept_bigger c.self.inside _ refl refl refl
    (λ room. room) grown.items grown.len grown.capacity c.self.invariant
