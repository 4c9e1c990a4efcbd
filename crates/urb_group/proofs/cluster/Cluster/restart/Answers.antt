use Rattle.urb_group.proofs.Common.{IsUnfallen, None, Some, arith, rules, ◌∙◌}
use Rattle.urb_group.proofs.calls.StoreCallEffects.{fallen-bounds, read-restarts, read-tied}
use Rattle.urb_group.proofs.calls.StoreCallEffects.{unfallen-restarts}
use Rattle.urb_group.proofs.cluster.Cluster.restart.Goals as goal

pub returns-in-Some : goal.returns-in-Some
returns-in-Some g c =
    let unasked : IsUnfallen c.self.inside.group c.args.node (Some c.in-Some.refusal) =
    search rules in
    rw (← c.self.view_is) (unfallen-restarts _ _ c.args.node c.in-Some.refusal unasked)

pub invariant_of-self : goal.invariant_of-self
invariant_of-self g c =
    let fallen : IsUnfallen c.self.inside.group c.args.node None = search rules in
    read-tied g.S.Stable _ _ c.args.node _ _ _ c.index_mut.result.now _ _ c.self.invariant
    c.restart_from_store.ensures.reads fallen.1 c.restart_from_store.ensures.free

pub returns : goal.returns
returns g c =
    let fallen : IsUnfallen c.self.inside.group c.args.node None = search rules in
    rw (← c.self.view_is)
    (read-restarts g.S.Stable (record
    { group = c.self.inside.group; stores = c.self.inside.stores.items })
    c.restart_from_store.new.group c.args.node c.from-at.result c.self.inside.drafts.items
    c.index_mut.result.now c.restart_from_store.new.store _
    c.self.invariant fallen.0 (c.from-at.ensures ∙ c.number.ensures.number)
    c.index_mut.ensures.value c.restart_from_store.ensures.reads)

pub index_mut-requires : goal.index_mut-requires
index_mut-requires g c =
    let fallen : IsUnfallen c.self.inside.group c.args.node None = search rules in
    let bounds = fallen-bounds c.self.inside.group c.args.node fallen.0 in
    omega (arith, bounds.0, bounds.1)
