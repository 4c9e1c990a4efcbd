use Rattle.urb_folder.proofs.Common.{Err, RetrievesTogether, map, subst, sym, ◌∙◌}
use Rattle.std.proofs.lemmas.List.{length-map}
use Rattle.urb_group.proofs.stops.OpenedClusters.{given-count}
use Rattle.urb_folder.proofs.ContinuedGroups.{goes-on-together, leaves-together, opened-together}
use Rattle.urb_folder.proofs.ContinuedGroups.{secured-together, stocked-together, unopened-together}
use Rattle.urb_folder.proofs.group.open_group.Goals as goal

pub open-requires : goal.open-requires
open-requires g c =
    sym (length-map c.in-Ok.images.items (λ image. image.items))
    ∙ (given-count g.S.Stable c.args.stores.items
    (map (λ image. image.items) c.in-Ok.images.items) c.retrieve_images-stores.result.0.items
    (subst (λ images. RetrievesTogether g.S.Stable c.args.stores.items images
    c.retrieve_images-stores.result.0.items) c.in-Ok.is c.retrieve_images-stores.ensures.gives)
    ∙ (sym c.args.stores.ok.0 ∙ c.requires))

pub returns-in-Ok-clause-goes_on : goal.returns-in-Ok-clause-goes_on
returns-in-Ok-clause-goes_on g c =
    let call = c.retrieve_images-stores in
    let stores = c.args.stores in
    let opens = opened-together g.S.Stable c.args.config stores.items call.result.1
    call.result.0.items c.in-Ok.images c.open.result call.ensures.gives c.in-Ok.is c.open.ensures in
    goes-on-together g.S.Stable c.args.config stores.items c.open.result call.result.0 opens
    (sym stores.ok.0 ∙ c.requires)

pub returns-in-Ok-clause-stop : goal.returns-in-Ok-clause-stop
returns-in-Ok-clause-stop g c =
    let call = c.retrieve_images-stores in
    let stores = c.args.stores.items in
    let opens = opened-together g.S.Stable c.args.config stores call.result.1
    call.result.0.items c.in-Ok.images c.open.result call.ensures.gives c.in-Ok.is c.open.ensures in
    leaves-together g.S.Stable c.args.config stores c.open.result call.result.0 opens

pub returns-in-Ok-clause-stocked : goal.returns-in-Ok-clause-stocked
returns-in-Ok-clause-stocked g c =
    let call = c.retrieve_images-stores in
    let stores = c.args.stores.items in
    let opens = opened-together g.S.Stable c.args.config stores call.result.1
    call.result.0.items c.in-Ok.images c.open.result call.ensures.gives c.in-Ok.is c.open.ensures in
    stocked-together g.S.Stable c.args.config stores c.open.result call.result.0.items opens

pub returns-in-Ok-clause-secured : goal.returns-in-Ok-clause-secured
returns-in-Ok-clause-secured g c =
    let call = c.retrieve_images-stores in
    let stores = c.args.stores.items in
    let opens = opened-together g.S.Stable c.args.config stores call.result.1
    call.result.0.items c.in-Ok.images c.open.result call.ensures.gives c.in-Ok.is c.open.ensures in
    secured-together g.S.Stable c.args.config stores c.open.result call.result.0.items opens

pub returns-in-Err-clause-goes_on : goal.returns-in-Err-clause-goes_on
returns-in-Err-clause-goes_on g c =
    let call = c.retrieve_images-stores in
    let stores = c.args.stores in
    let refused = unopened-together g.S.Stable c.args.config stores.items call.result.1
    call.result.0.items c.in-Err.refusal call.ensures.gives c.in-Err.is in
    goes-on-together g.S.Stable c.args.config stores.items (Err c.in-Err.refusal) call.result.0
    refused (sym stores.ok.0 ∙ c.requires)

pub returns-in-Err-clause-stop : goal.returns-in-Err-clause-stop
returns-in-Err-clause-stop g c =
    let call = c.retrieve_images-stores in
    let stores = c.args.stores.items in
    let refused = unopened-together g.S.Stable c.args.config stores call.result.1
    call.result.0.items c.in-Err.refusal call.ensures.gives c.in-Err.is in
    leaves-together g.S.Stable c.args.config stores (Err c.in-Err.refusal) call.result.0 refused
