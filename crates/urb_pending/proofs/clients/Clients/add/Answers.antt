use Rattle.urb_pending.proofs.Common.{Row, [], ap, arith, has_room, length, numbers_in, sym, ◌++◌}
use Rattle.urb_pending.proofs.Common.{◌<◌, ◌∙◌, ◌∷◌}
use Rattle.urb_pending.proofs.ClientRowPlaces.{order_changed, place_in, row_changed}
use Rattle.urb_pending.proofs.ClientRowChanges.{given_pushed, roomy_row, row_read, row_within}
use Rattle.urb_pending.proofs.clients.Clients.add.Goals as goal

pub index_mut-requires : goal.index_mut-requires
index_mut-requires g c =
    let rows = c.self.inside.rows.items in
    let asked = ap (has_room c.args.client) c.self.view_is ∙ c.requires in
    let there = roomy_row c.args.client rows c.self.invariant asked in
    let place =
    c.place_of-place.ensures.place ∙ ap (place_in c.args.client) c.deref.ensures.value in
    let within : c.place_of-place.result < length rows =
    row_within c.args.client rows there.row c.place_of-place.result there.held place in
    omega (arith, within, c.self.inside.rows.ok.0)

pub push-requires : goal.push-requires
push-requires g c =
    let rows = c.self.inside.rows.items in
    let asked = ap (has_room c.args.client) c.self.view_is ∙ c.requires in
    let there = roomy_row c.args.client rows c.self.invariant asked in
    let place =
    c.place_of-place.ensures.place ∙ ap (place_in c.args.client) c.deref.ensures.value in
    let here =
    (row_read c.args.client rows there.row c.index_mut.result.now c.place_of-place.result
    there.held place c.index_mut.ensures.value).1 in
    ap (λ (row : Row). row.room) here ∙ there.room

pub invariant_of-self : goal.invariant_of-self
invariant_of-self g c =
    let rows = c.self.inside.rows.items in
    let asked = ap (has_room c.args.client) c.self.view_is ∙ c.requires in
    let there = roomy_row c.args.client rows c.self.invariant asked in
    let place =
    c.place_of-place.ensures.place ∙ ap (place_in c.args.client) c.deref.ensures.value in
    let here =
    (row_read c.args.client rows there.row c.index_mut.result.now c.place_of-place.result
    there.held place c.index_mut.ensures.value).1 in
    order_changed c.push.new.self there.row rows c.place_of-place.result
    (c.push.ensures.client ∙ ap (λ (row : Row). row.client) here)
    (rw place there.held.at) c.self.invariant

pub returns : goal.returns
returns g c =
    let rows = c.self.inside.rows.items in
    let new = c.push.new.self in
    let client = c.args.client in
    let asked = ap (has_room client) c.self.view_is ∙ c.requires in
    let there = roomy_row client rows c.self.invariant asked in
    let place = c.place_of-place.ensures.place ∙ ap (place_in client) c.deref.ensures.value in
    let here =
    (row_read client rows there.row c.index_mut.result.now c.place_of-place.result there.held
    place c.index_mut.ensures.value).1 in
    let given =
    c.push.ensures.given ∙ ap (λ (row : Row). row.given ++ c.args.seq ∷ []) here
    ∙ ap (λ row. numbers_in row ++ c.args.seq ∷ []) (sym there.held.found) in
    rw (← c.self.view_is, place)
    (given_pushed client new rows _
    (row_changed client new there.row rows
    (c.push.ensures.client ∙ (ap (λ (row : Row). row.client) here ∙ there.held.own))
    there.held.own there.held.at) c.args.seq given)
