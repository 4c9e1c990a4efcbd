use Rattle.urb_group.proofs.Common.{length-map, map, sym, ◌∙◌}
use Rattle.urb_group.proofs.stops.OpenedClusters.{given-count, given-opens}
use Rattle.urb_group.proofs.reopening.open_group.Goals as goal

pub open-requires : goal.open-requires
open-requires g c =
    sym (length-map c.in_ok-images.images.items (λ image. image.items))
    ∙ (given-count g.S.Stable c.args.stores.now
    (map (λ image. image.items) c.in_ok-images.images.items)
    c.retrieve_all.new.stores c.in_ok-images.ensures ∙ c.requires)

pub returns : goal.returns
returns g c =
    given-opens g.S.Stable c.args.config c.args.stores.now c.retrieve_all.new.stores
    (map (λ image. image.items) c.in_ok-images.images.items)
    c.open.result c.in_ok-images.ensures c.open.ensures
