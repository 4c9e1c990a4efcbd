use Rattle.std.proofs.Common.{rules, sym, ◌≡◌, ◌<◌, ◌≤◌, ◌==◌, length, get_or, false}
use Rattle.std.proofs.lemmas.Bool.{eqb-false, eqb-true}
use Rattle.urb_pending.proofs.ClientRowPlaces.{held_here, held_not, held_past}
use Rattle.urb_pending.proofs.clients.row_of.Goals as goal

pub returns-in_err-row : goal.returns-in_err-row
returns-in_err-row g c =
    let past : length c.args.rows.now ≤ c.place_of.result = search rules in
    let none =
    held_past c.args.client c.args.rows.now c.place_of.result c.requires
    c.place_of.ensures.place past in
    rw c.from_residual.ensures (sym none)

pub returns-then-eq : goal.returns-then-eq
returns-then-eq g c =
    let row = c.in_ok-row.row.now in
    let within : c.place_of.result < length c.args.rows.now = search rules in
    let at : row ≡ get_or c.args.rows.now c.place_of.result row = search rules in
    let own : row.client ≡ c.args.client = eqb-true row.client c.args.client (search rules) in
    sym (held_here c.args.client c.args.rows.now row c.place_of.result c.requires
    c.place_of.ensures.place within at own).found

pub returns : goal.returns
returns g c =
    let row = c.in_ok-row.row.now in
    let within : c.place_of.result < length c.args.rows.now = search rules in
    let at : row ≡ get_or c.args.rows.now c.place_of.result row = search rules in
    let other : (row.client == c.args.client) ≡ false = search rules in
    sym (held_not c.args.client c.args.rows.now row c.place_of.result c.requires
    c.place_of.ensures.place within at (eqb-false row.client c.args.client other))
