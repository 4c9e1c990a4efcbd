use Rattle.urb_turn.proofs.Common.{AllRest, subst, ◌≡◌}
use Rattle.urb_turn.proofs.LastLoans.{left_since}
use Rattle.urb_turn.specs.internal.CountedHouses.{CountedView}
use Rattle.urb_turn.proofs.counting.counted_house.CountedHouse.recall_kill.Goals as goal

pub returns-clause-left : goal.returns-clause-left
returns-clause-left g c start stores =
    let old : CountedView =
    record { house = c.self.inside.house; last = c.self.inside.last } in
    let view : old ≡ c.args.self.now = cc (c.self.view_is) in
    left_since g.S.Stable start c.args.self.now.last c.args.self.now.house.past stores
    (subst (λ (v : CountedView). AllRest v.last v.house.past) view c.self.invariant)
