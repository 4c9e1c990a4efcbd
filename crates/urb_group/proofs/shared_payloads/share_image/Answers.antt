use Rattle.std.proofs.Common.{◌∙◌}
use Rattle.urb_group.proofs.stops.AskedStores.{written-back}
use Rattle.urb_group.proofs.shared_payloads.share_image.Goals as goal

pub returns : goal.returns
returns g c =
    written-back c.args.image.items c.deref_mut.result.now c.share_payloads.new.records
    c.args.image.len c.args.image.ok.0 c.deref_mut.ensures.value c.share_payloads.auto.records
    ∙ (c.share_payloads.ensures ∙ c.deref_mut.ensures.value)
