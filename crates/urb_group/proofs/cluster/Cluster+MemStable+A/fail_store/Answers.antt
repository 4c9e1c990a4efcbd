use Rattle.urb_group.proofs.Common.{IsUnstored, Some, arith, rules, sym, ◌∙◌}
use Rattle.urb_group.proofs.calls.StoreCallEffects.{held-bounds, held-self, lost-fails, lost-tied}
use Rattle.urb_group.proofs.calls.StoreCallEffects.{unstored-fails}
use Rattle.urb_group.proofs.cluster.Cluster+MemStable+A.fail_store.Goals as goal

pub returns-in-Some : goal.returns-in-Some
returns-in-Some g c =
    let unasked : IsUnstored c.self.inside.group c.args.node (Some c.in-Some.why) = search rules in
    rw (← c.self.view_is) (unstored-fails _ c.args.node c.args.failure c.in-Some.why unasked)

pub take_down-requires-clause-held : goal.take_down-requires-clause-held
take_down-requires-clause-held g c =
    held-self c.self.inside.group c.args.node _
    (sym (c.self.invariant.held c.args.node) ∙ c.take_draft-draft.ensures.draft)

pub invariant_of-self : goal.invariant_of-self
invariant_of-self g c =
    lost-tied _ _ c.args.node _ _ c.self.inside.drafts.items _ c.take_draft-draft.result _ _
    c.self.invariant
    (sym (c.self.invariant.held c.args.node) ∙ c.take_draft-draft.ensures.draft)
    c.take_down.ensures.event c.take_down.ensures.free
    c.take_draft-draft.ensures.drafts

pub returns : goal.returns
returns g c =
    rw (← c.self.view_is)
    (lost-fails (record { group = c.self.inside.group; stores = c.self.inside.stores.items })
    c.take_down.new.group c.args.node c.from-at.result c.self.inside.drafts.items
    c.take_draft-draft.result c.index_mut.result.now c.break_store.new.store c.args.failure _
    c.self.invariant
    (sym (c.self.invariant.held c.args.node) ∙ c.take_draft-draft.ensures.draft)
    (c.from-at.ensures ∙ c.number.ensures.number)
    c.index_mut.ensures.value c.break_store.ensures c.take_down.ensures.event)

pub index_mut-requires : goal.index_mut-requires
index_mut-requires g c =
    let bounds =
    held-bounds c.self.inside.group c.args.node c.take_draft-draft.result
    (sym (c.self.invariant.held c.args.node) ∙ c.take_draft-draft.ensures.draft) in
    omega (arith, bounds.0, bounds.1)
