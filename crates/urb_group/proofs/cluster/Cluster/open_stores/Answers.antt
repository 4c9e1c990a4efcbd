use Rattle.urb_group.proofs.Common.{Err, None, Ok, OpensFrom, ap, length, replicate, rules, subst}
use Rattle.urb_group.proofs.Common.{sym, ◌∙◌, ◌≡◌}
use Rattle.urb_group.proofs.stops.AskedStores.{written-back}
use Rattle.urb_group.proofs.calls.ArmedStores.{opened-tied}
use Rattle.urb_stable.specs.Images.{image_of}
use Rattle.urb_group.proofs.cluster.Cluster.open_stores.Goals as goal

pub invariant_of-result : goal.invariant_of-result
invariant_of-result g c =
    let back =
    written-back c.args.stores.items c.deref_mut.result.now c.open_group.new.stores
    c.args.stores.len c.args.stores.ok.0 c.deref_mut.ensures.value c.open_group.auto.stores in
    let none : c.in-Ok.drafts.items ≡ replicate c.args.config.n None = search rules in
    let given = c.in-Ok-open_group.ensures in
    opened-tied c.in-Ok-open_group.group c.args.config
    (image_of given.images) _ c.in-Ok.drafts.items c.recall.ensures.sound given.opens.1
    (ap length back ∙ (c.open_group.auto.stores
    ∙ (ap length c.deref_mut.ensures.value ∙ c.requires))) none

pub returns-in-Ok-open_group : goal.returns-in-Ok-open_group
returns-in-Ok-open_group g c =
    let back =
    written-back c.args.stores.items c.deref_mut.result.now c.open_group.new.stores
    c.args.stores.len c.args.stores.ok.0 c.deref_mut.ensures.value c.open_group.auto.stores in
    subst (λ asked. OpensFrom g.S.Stable c.args.config c.args.stores.items
    (Ok c.in-Ok-open_group.group) asked) (sym back)
    (subst (λ stores. OpensFrom g.S.Stable c.args.config stores
    (Ok c.in-Ok-open_group.group) c.open_group.new.stores)
    c.deref_mut.ensures.value c.in-Ok-open_group.ensures)

pub returns-in-Err : goal.returns-in-Err
returns-in-Err g c =
    let back =
    written-back c.args.stores.items c.deref_mut.result.now c.open_group.new.stores
    c.args.stores.len c.args.stores.ok.0 c.deref_mut.ensures.value c.open_group.auto.stores in
    subst (λ asked. OpensFrom g.S.Stable c.args.config c.args.stores.items
    (Err c.in-Err.refusal) asked) (sym back)
    (subst (λ stores. OpensFrom g.S.Stable c.args.config stores
    (Err c.in-Err.refusal) c.open_group.new.stores) c.deref_mut.ensures.value c.in-Err.ensures)
