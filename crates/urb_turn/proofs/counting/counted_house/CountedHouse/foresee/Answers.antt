use Rattle.urb_turn.proofs.Common.{List, Entry, rules, subst, ◌≡◌}
use Rattle.std.specs.List.{All}
use Rattle.urb_stable.specs.Entries.{IsEntry}
use Rattle.urb_turn.proofs.HeldTails.{may_hold}
use Rattle.urb_turn.proofs.counting.counted_house.CountedHouse.foresee.Goals as goal

pub returns-clause-may : goal.returns-clause-may
returns-clause-may g c some =
    let shown : c.group.result.now ≡ c.args.self.now.house.group = search rules in
    let items : c.deref.result.now ≡ c.into_records-records.result.items = cc (c.deref.ensures.value) in
    let entries : All IsEntry c.into_records-records.result.items =
    subst (λ (rs : List Entry). All IsEntry rs) items c.recall_records.ensures in
    may_hold c.args.self.now.house.group c.group.result.now c.args.node
    c.into_records-records.result.items c.foresee_calls-foresight.result.0 shown
    c.into_records-records.ensures.value entries c.foresee_calls-foresight.ensures.may some
