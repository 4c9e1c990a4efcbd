use Rattle.urb_group.proofs.Common.{IsUnstored, Some, arith, rules, sym, ◌∙◌}
use Rattle.urb_group.proofs.calls.StoreCallEffects.{held-bounds, held-self, kept-stores, kept-tied}
use Rattle.urb_group.proofs.calls.StoreCallEffects.{unstored-stores}
use Rattle.urb_group.proofs.cluster.Cluster.store.Goals as goal

pub returns-in-Some : goal.returns-in-Some
returns-in-Some g c =
    let unasked : IsUnstored c.self.inside.group c.args.node (Some c.in-Some.refusal) =
    search rules in
    rw (← c.self.view_is) (unstored-stores _ _ c.args.node c.in-Some.refusal unasked)

pub store_draft-requires-clause-held : goal.store_draft-requires-clause-held
store_draft-requires-clause-held g c =
    held-self c.self.inside.group c.args.node _
    (sym (c.self.invariant.held c.args.node) ∙ c.take_draft-draft.ensures.draft)

pub invariant_of-self : goal.invariant_of-self
invariant_of-self g c =
    kept-tied g.S.Stable _ _ c.args.node _ _ c.self.inside.drafts.items _ c.take_draft-draft.result
    _ _ _ c.self.invariant
    (sym (c.self.invariant.held c.args.node) ∙ c.take_draft-draft.ensures.draft)
    c.store_draft.ensures.stores c.store_draft.ensures.free
    c.take_draft-draft.ensures.drafts

pub returns : goal.returns
returns g c =
    rw (← c.self.view_is)
    (kept-stores g.S.Stable (record
    { group = c.self.inside.group; stores = c.self.inside.stores.items })
    c.store_draft.new.group c.args.node c.from-at.result c.self.inside.drafts.items
    c.take_draft-draft.result c.index_mut.result.now c.store_draft.new.store _
    c.self.invariant
    (sym (c.self.invariant.held c.args.node) ∙ c.take_draft-draft.ensures.draft)
    (c.from-at.ensures ∙ c.number.ensures.number)
    c.index_mut.ensures.value c.store_draft.ensures.stores)

pub index_mut-requires : goal.index_mut-requires
index_mut-requires g c =
    let bounds =
    held-bounds c.self.inside.group c.args.node c.take_draft-draft.result
    (sym (c.self.invariant.held c.args.node) ∙ c.take_draft-draft.ensures.draft) in
    omega (arith, bounds.0, bounds.1)
