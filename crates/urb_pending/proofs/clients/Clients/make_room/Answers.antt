use Rattle.std.proofs.Common.{rules, sym, ap, subst, ◌∙◌, ◌≡◌, ◌<◌, length, true, insert, arith}
use Rattle.std.proofs.Common.{is_some}
use Rattle.urb_pending.specs.internal.ClientRows.{Row, row_of, are_in_order}
use Rattle.urb_pending.specs.internal.ClientIndex.{has_room, numbers_in, is_roomy}
use Rattle.urb_pending.proofs.ClientRowPlaces.{order_changed, order_placed, place_in, row_changed, row_placed}
use Rattle.urb_pending.proofs.ClientRowChanges.{given_same, no_row, not_roomy, placed_at, room_kept}
use Rattle.urb_pending.proofs.ClientRowChanges.{room_made, row_read, row_there, row_within}
use Rattle.urb_pending.proofs.clients.Clients.make_room.Goals as goal

pub index_mut-requires : goal.index_mut-requires
index_mut-requires g c =
    let rows = c.self.inside.rows.items in
    let client = c.args.client in
    let there =
    row_there client rows c.self.invariant
    (ap (λ rs. is_some (row_of client rs)) (sym c.deref-2.ensures.value)
    ∙ (sym c.is_at.ensures ∙ c.if-is_at.true)) in
    let place = c.place_of-place.ensures.place ∙ ap (place_in client) c.deref.ensures.value in
    let within : c.place_of-place.result < length rows =
    row_within client rows there.row c.place_of-place.result there.held place in
    omega (arith, within, c.self.inside.rows.ok.0)

pub returns-in_err-make_room-clause-roomy : goal.returns-in_err-make_room-clause-roomy
returns-in_err-make_room-clause-roomy g c =
    λ asked.
    let rows = c.self.inside.rows.items in
    let client = c.args.client in
    let there =
    row_there client rows c.self.invariant
    (ap (λ rs. is_some (row_of client rs)) (sym c.deref-2.ensures.value)
    ∙ (sym c.is_at.ensures ∙ c.if-is_at.true)) in
    let place = c.place_of-place.ensures.place ∙ ap (place_in client) c.deref.ensures.value in
    let here =
    (row_read client rows there.row c.index_mut.result.now c.place_of-place.result there.held
    place c.index_mut.ensures.value).1 in
    let roomy : has_room client rows ≡ true = ap (has_room client) c.self.view_is ∙ asked in
    let room : c.index_mut.result.now.room ≡ true =
    ap (λ (row : Row). row.room) here ∙ (ap is_roomy (sym there.held.found) ∙ roomy) in
    let ok = c.make_room.ensures.roomy room in
    search rules

pub invariant_of-self-then-is_at : goal.invariant_of-self-then-is_at
invariant_of-self-then-is_at g c =
    let rows = c.self.inside.rows.items in
    let client = c.args.client in
    let there =
    row_there client rows c.self.invariant
    (ap (λ rs. is_some (row_of client rs)) (sym c.deref-2.ensures.value)
    ∙ (sym c.is_at.ensures ∙ c.if-is_at.true)) in
    let place = c.place_of-place.ensures.place ∙ ap (place_in client) c.deref.ensures.value in
    let here =
    (row_read client rows there.row c.index_mut.result.now c.place_of-place.result there.held
    place c.index_mut.ensures.value).1 in
    order_changed c.make_room.new.self there.row rows c.place_of-place.result
    (c.make_room.ensures.client ∙ ap (λ (row : Row). row.client) here)
    (rw place there.held.at) c.self.invariant

pub returns-then-is_at-clause-given : goal.returns-then-is_at-clause-given
returns-then-is_at-clause-given g c =
    let rows = c.self.inside.rows.items in
    let client = c.args.client in
    let new = c.make_room.new.self in
    let there =
    row_there client rows c.self.invariant
    (ap (λ rs. is_some (row_of client rs)) (sym c.deref-2.ensures.value)
    ∙ (sym c.is_at.ensures ∙ c.if-is_at.true)) in
    let place = c.place_of-place.ensures.place ∙ ap (place_in client) c.deref.ensures.value in
    let here =
    (row_read client rows there.row c.index_mut.result.now c.place_of-place.result there.held
    place c.index_mut.ensures.value).1 in
    rw (← c.self.view_is, place)
    (given_same client new rows _
    (row_changed client new there.row rows
    (c.make_room.ensures.client ∙ (ap (λ (row : Row). row.client) here ∙ there.held.own))
    there.held.own there.held.at)
    (c.make_room.ensures.given ∙ (ap (λ (row : Row). row.given) here
    ∙ ap numbers_in (sym there.held.found))))

pub returns-then-is_at-clause-kept : goal.returns-then-is_at-clause-kept
returns-then-is_at-clause-kept g c =
    let rows = c.self.inside.rows.items in
    let client = c.args.client in
    let new = c.make_room.new.self in
    let there =
    row_there client rows c.self.invariant
    (ap (λ rs. is_some (row_of client rs)) (sym c.deref-2.ensures.value)
    ∙ (sym c.is_at.ensures ∙ c.if-is_at.true)) in
    let place = c.place_of-place.ensures.place ∙ ap (place_in client) c.deref.ensures.value in
    let here =
    (row_read client rows there.row c.index_mut.result.now c.place_of-place.result there.held
    place c.index_mut.ensures.value).1 in
    rw (← c.self.view_is, place)
    (room_kept client new rows _ (row_changed client new there.row rows
    (c.make_room.ensures.client ∙ (ap (λ (row : Row). row.client) here ∙ there.held.own))
    there.held.own there.held.at) c.in_ok-make_room.ensures.ok)

pub returns-then-is_at-clause-ok : goal.returns-then-is_at-clause-ok
returns-then-is_at-clause-ok g c =
    let rows = c.self.inside.rows.items in
    let client = c.args.client in
    let new = c.make_room.new.self in
    let there =
    row_there client rows c.self.invariant
    (ap (λ rs. is_some (row_of client rs)) (sym c.deref-2.ensures.value)
    ∙ (sym c.is_at.ensures ∙ c.if-is_at.true)) in
    let place = c.place_of-place.ensures.place ∙ ap (place_in client) c.deref.ensures.value in
    let here =
    (row_read client rows there.row c.index_mut.result.now c.place_of-place.result there.held
    place c.index_mut.ensures.value).1 in
    rw (place)
    (room_made client new rows _ (row_changed client new there.row rows
    (c.make_room.ensures.client ∙ (ap (λ (row : Row). row.client) here ∙ there.held.own))
    there.held.own there.held.at) c.in_ok-make_room.ensures.ok)

pub returns-in_err-make_room-2-clause-roomy : goal.returns-in_err-make_room-2-clause-roomy
returns-in_err-make_room-2-clause-roomy g c =
    λ asked.
    absurd (not_roomy c.args.client c.self.inside.rows.items
    (ap (λ rs. is_some (row_of c.args.client rs)) (sym c.deref-2.ensures.value)
    ∙ (sym c.is_at.ensures ∙ c.if-is_at.false))
    (ap (has_room c.args.client) c.self.view_is ∙ asked))

pub returns-in_err-insert-clause-roomy : goal.returns-in_err-insert-clause-roomy
returns-in_err-insert-clause-roomy g c =
    λ asked.
    absurd (not_roomy c.args.client c.self.inside.rows.items
    (ap (λ rs. is_some (row_of c.args.client rs)) (sym c.deref-2.ensures.value)
    ∙ (sym c.is_at.ensures ∙ c.if-is_at.false))
    (ap (has_room c.args.client) c.self.view_is ∙ asked))

pub invariant_of-self-2 : goal.invariant_of-self-2
invariant_of-self-2 g c =
    let rows = c.self.inside.rows.items in
    let client = c.args.client in
    let new = c.make_room-2.new.self in
    let none =
    no_row client rows
    (ap (λ rs. is_some (row_of client rs)) (sym c.deref-2.ensures.value)
    ∙ (sym c.is_at.ensures ∙ c.if-is_at.false)) in
    let own : new.client ≡ client = c.make_room-2.ensures.client ∙ c.new-row.ensures.client in
    let place = c.place_of-place.ensures.place ∙ ap (place_in client) c.deref.ensures.value in
    let put : c.insert.new.self.items ≡ insert rows c.place_of-place.result new =
    c.in_ok-insert.ensures.items in
    let items =
    placed_at client rows c.insert.new.self.items new c.place_of-place.result own place put in
    subst (λ after. are_in_order after ≡ true) (sym items)
    (order_placed new rows (ap (λ n. row_of n rows) own ∙ none) c.self.invariant)

pub returns-clause-given : goal.returns-clause-given
returns-clause-given g c =
    let rows = c.self.inside.rows.items in
    let client = c.args.client in
    let new = c.make_room-2.new.self in
    let none =
    no_row client rows
    (ap (λ rs. is_some (row_of client rs)) (sym c.deref-2.ensures.value)
    ∙ (sym c.is_at.ensures ∙ c.if-is_at.false)) in
    let own : new.client ≡ client = c.make_room-2.ensures.client ∙ c.new-row.ensures.client in
    let place = c.place_of-place.ensures.place ∙ ap (place_in client) c.deref.ensures.value in
    let put : c.insert.new.self.items ≡ insert rows c.place_of-place.result new =
    c.in_ok-insert.ensures.items in
    let items =
    placed_at client rows c.insert.new.self.items new c.place_of-place.result own place put in
    rw (← c.self.view_is, items)
    (given_same client new rows _ (row_placed client new rows own)
    (c.make_room-2.ensures.given ∙ (c.new-row.ensures.given ∙ ap numbers_in (sym none))))

pub returns-clause-kept : goal.returns-clause-kept
returns-clause-kept g c =
    let rows = c.self.inside.rows.items in
    let client = c.args.client in
    let new = c.make_room-2.new.self in
    let none =
    no_row client rows
    (ap (λ rs. is_some (row_of client rs)) (sym c.deref-2.ensures.value)
    ∙ (sym c.is_at.ensures ∙ c.if-is_at.false)) in
    let own : new.client ≡ client = c.make_room-2.ensures.client ∙ c.new-row.ensures.client in
    let place = c.place_of-place.ensures.place ∙ ap (place_in client) c.deref.ensures.value in
    let put : c.insert.new.self.items ≡ insert rows c.place_of-place.result new =
    c.in_ok-insert.ensures.items in
    let items =
    placed_at client rows c.insert.new.self.items new c.place_of-place.result own place put in
    rw (← c.self.view_is, items) (room_kept client new rows _ (row_placed client new rows own)
    c.in_ok-make_room-2.ensures.ok)

pub returns-clause-ok : goal.returns-clause-ok
returns-clause-ok g c =
    let rows = c.self.inside.rows.items in
    let client = c.args.client in
    let new = c.make_room-2.new.self in
    let none =
    no_row client rows
    (ap (λ rs. is_some (row_of client rs)) (sym c.deref-2.ensures.value)
    ∙ (sym c.is_at.ensures ∙ c.if-is_at.false)) in
    let own : new.client ≡ client = c.make_room-2.ensures.client ∙ c.new-row.ensures.client in
    let place = c.place_of-place.ensures.place ∙ ap (place_in client) c.deref.ensures.value in
    let put : c.insert.new.self.items ≡ insert rows c.place_of-place.result new =
    c.in_ok-insert.ensures.items in
    let items =
    placed_at client rows c.insert.new.self.items new c.place_of-place.result own place put in
    rw (items) (room_made client new rows _ (row_placed client new rows own)
    c.in_ok-make_room-2.ensures.ok)
