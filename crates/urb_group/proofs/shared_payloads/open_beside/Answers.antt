use Rattle.urb_group.proofs.Common.{IfOk, KeepsOwn, ShowsReady, [], opened_node, subst, sym, ◌∙◌}
use Rattle.urb_group.proofs.Common.{◌≡◌}
use Rattle.urb_group.proofs.stops.AskedStores.{written-back}
use Rattle.urb_group.proofs.shared_payloads.open_beside.Goals as goal

pub open-requires-clause-rules : goal.open-requires-clause-rules
open-requires-clause-rules g c =
    let back =
    written-back c.args.image.items c.deref_mut.result.now c.share_payloads.new.records
    c.args.image.len c.args.image.ok.0 c.deref_mut.ensures.value
    c.share_payloads.auto.records in
    subst (λ records. KeepsOwn c.args.config c.args.node [] records)
    (sym (back ∙ (c.share_payloads.ensures ∙ c.deref_mut.ensures.value))) c.requires.rules

pub returns : goal.returns
returns g c =
    let back =
    written-back c.args.image.items c.deref_mut.result.now c.share_payloads.new.records
    c.args.image.len c.args.image.ok.0 c.deref_mut.ensures.value
    c.share_payloads.auto.records in
    subst (λ records. IfOk c.open.result
    (λ ready. (ready.limits ≡ c.args.config) × (ready.node ≡ c.args.node)
    × ShowsReady ready (opened_node c.args.node records)))
    (back ∙ (c.share_payloads.ensures ∙ c.deref_mut.ensures.value)) c.open.ensures
