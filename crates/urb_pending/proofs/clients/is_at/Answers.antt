use Rattle.std.proofs.Common.{rules, sym, ap, ◌∙◌, ◌≡◌, ◌==◌, is_some, le-ltb}
use Rattle.urb_pending.proofs.ClientRowPlaces.{held_or_not, held_past}
use Rattle.urb_pending.proofs.clients.is_at.Goals as goal

pub returns-then-place-rows : goal.returns-then-place-rows
returns-then-place-rows g c =
    let row = c.index-rows-place.result in
    let own : c.eq.result ≡ (row.client == c.args.client) = search rules in
    own ∙ held_or_not c.args.client c.args.rows.now row c.args.place c.requires.order
    c.requires.place c.if-place-rows.true c.index-rows-place.is

pub returns-else-place-rows : goal.returns-else-place-rows
returns-else-place-rows g c =
    le-ltb _ _ c.if-place-rows.false
    ∙ sym (ap is_some (held_past c.args.client c.args.rows.now c.args.place c.requires.order
    c.requires.place c.if-place-rows.false))
