use Rattle.urb_show.proofs.Common.{Agree, IsSound, PublisherView, [], ap, lists_in, refl, subst}
use Rattle.urb_show.proofs.Common.{◌∙◌, ◌≡◌}
use Rattle.urb_show.proofs.DeliveredPlaces.{opened_delivered}
use Rattle.urb_show.proofs.GroupLists.{lists_agree}
use Rattle.urb_show.proofs.PastEvents.{has_no_past}
use Rattle.urb_show.proofs.PastPrefixes.{prefix_none}
use Rattle.urb_show.proofs.PreparedEntries.{opened_house_is}
use Rattle.urb_show.specs.Houses.{OpenedView}
use Rattle.urb_show.proofs.opened_group.Opened.parts_in.Goals as goal

pub new-requires-clause-agree : goal.new-requires-clause-agree
new-requires-clause-agree g c =
    let base : lists_in c.self.inside.group ≡ g.K.HouseName.base =
    ap (λ (n : OpenedView). lists_in n.group) c.self.view_is ∙ c.requires.names.base in
    subst Agree base (lists_agree c.self.inside.group c.recall_deliveries.ensures.agree)

pub invariant_of-house : goal.invariant_of-house
invariant_of-house g c =
    let base : lists_in c.self.inside.group ≡ g.K.HouseName.base =
    ap (λ (n : OpenedView). lists_in n.group) c.self.view_is ∙ c.requires.names.base in
    let same : c.self.inside.group ≡ g.K.HouseName.origin =
    ap (λ (n : OpenedView). n.group) c.self.view_is ∙ c.requires.names.origin in (
      opened_house_is c.self.inside.group g.K.HouseName.base c.new.result.all
          c.in-Ok.made.1.items c.recall_deliveries.ensures.sound
          c.recall_deliveries.ensures.counted base
          (ap (λ (p : PublisherView). p.all) c.new.ensures) c.in-Ok.ensures.2,
      has_no_past g.K.HouseName.origin c.self.inside.group _ 0 c.recall_deliveries.ensures.sound
          c.new-2.ensures refl same,
      prefix_none _ _ c.parts-history.ensures c.new-2.ensures,
    )

pub make_readers-requires-clause-agree : goal.make_readers-requires-clause-agree
make_readers-requires-clause-agree g c =
    let base : lists_in c.self.inside.group ≡ g.K.HouseName.base =
    ap (λ (n : OpenedView). lists_in n.group) c.self.view_is ∙ c.requires.names.base in
    subst Agree base (lists_agree c.self.inside.group c.recall_deliveries.ensures.agree)

pub new-requires-clause-sound : goal.new-requires-clause-sound
new-requires-clause-sound g c =
    let same : c.self.inside.group ≡ g.K.HouseName.origin =
    ap (λ (n : OpenedView). n.group) c.self.view_is ∙ c.requires.names.origin in
    subst IsSound same c.recall_deliveries.ensures.sound

pub new-requires-clause-delivered : goal.new-requires-clause-delivered
new-requires-clause-delivered g c =
    let base : lists_in c.self.inside.group ≡ g.K.HouseName.base =
    ap (λ (n : OpenedView). lists_in n.group) c.self.view_is ∙ c.requires.names.base in
    let same : c.self.inside.group ≡ g.K.HouseName.origin =
    ap (λ (n : OpenedView). n.group) c.self.view_is ∙ c.requires.names.origin in
    opened_delivered g.K.HouseName.origin c.self.inside.group [] g.K.HouseName.base refl same base
    c.recall_deliveries.ensures.sound

pub make_readers-requires-clause-sound : goal.make_readers-requires-clause-sound
make_readers-requires-clause-sound g c =
    let same : c.self.inside.group ≡ g.K.HouseName.origin =
    ap (λ (n : OpenedView). n.group) c.self.view_is ∙ c.requires.names.origin in
    subst IsSound same c.recall_deliveries.ensures.sound

pub make_readers-requires-clause-delivered : goal.make_readers-requires-clause-delivered
make_readers-requires-clause-delivered g c =
    let base : lists_in c.self.inside.group ≡ g.K.HouseName.base =
    ap (λ (n : OpenedView). lists_in n.group) c.self.view_is ∙ c.requires.names.base in
    let same : c.self.inside.group ≡ g.K.HouseName.origin =
    ap (λ (n : OpenedView). n.group) c.self.view_is ∙ c.requires.names.origin in
    opened_delivered g.K.HouseName.origin c.self.inside.group [] g.K.HouseName.base refl same base
    c.recall_deliveries.ensures.sound
