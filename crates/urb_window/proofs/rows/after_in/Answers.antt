use Rattle.urb_window.proofs.Common.{None, Some, ap, arith, entries_from, find, get_or, length}
use Rattle.urb_window.proofs.Common.{name_lt, nat_lt, option_map, pairs_of, rules, sym, ◌+◌, ◌-◌}
use Rattle.urb_window.proofs.Common.{◌<◌, ◌∙◌, ◌≡◌, ◌≤◌}
use Rattle.urb_window.proofs.RemainingEntries.{after_beyond, after_found, after_missed, found_over}
use Rattle.urb_window.proofs.rows.after_in.Goals as goal

pub invariant_of-result : goal.invariant_of-result
invariant_of-result g c =
    let found : option_map (λ pair. pair.0)
    (find (λ pair. nat_lt c.name.inside.seq pair.0) (pairs_of c.in-Some.row.now))
    ≡ Some c.in-Some-after.seq = sym c.in-Some-after.ensures in
    let over : c.name.inside.seq < c.in-Some-after.seq =
    found_over (pairs_of c.in-Some.row.now) c.name.inside.seq c.in-Some-after.seq found in
    omega arith

pub returns-in-Some-after : goal.returns-in-Some-after
returns-in-Some-after g c =
    let rows = c.args.rows.now in
    let x = c.name.inside in
    let row = c.in-Some.row.now in
    let i = c.index_of-index.result in
    let within : i < length rows = search rules in
    let read : row ≡ get_or rows i row = search rules in
    let found : option_map (λ pair. pair.0) (find (λ pair. nat_lt x.seq pair.0) (pairs_of row))
    ≡ Some c.in-Some-after.seq = sym c.in-Some-after.ensures in
    sym (after_found rows (record { sender = x.sender; seq = x.seq })
    i c.in-Some-after.seq row c.index_of-index.ensures.place within read found)
    ∙ ap (λ y. option_map (λ entry. entry.0)
    (find (λ entry. name_lt y entry.0) (entries_from 1 rows))) c.name.view_is

pub returns-in-None-after : goal.returns-in-None-after
returns-in-None-after g c =
    let rows = c.args.rows.now in
    let x = c.name.inside in
    let row = c.in-Some.row.now in
    let i = c.index_of-index.result in
    let within : i < length rows = search rules in
    let read : row ≡ get_or rows i row = search rules in
    let missed : option_map (λ pair. pair.0) (find (λ pair. nat_lt x.seq pair.0) (pairs_of row))
    ≡ None = sym c.in-None-after.ensures in
    c.first_from.ensures
    ∙ (sym (after_missed rows (record { sender = x.sender; seq = x.seq })
    i row c.index_of-index.ensures.place within read missed)
    ∙ ap (λ y. option_map (λ entry. entry.0)
    (find (λ entry. name_lt y entry.0) (entries_from 1 rows))) c.name.view_is)

pub returns-in-None : goal.returns-in-None
returns-in-None g c =
    let rows = c.args.rows.now in
    let x = c.name.inside in
    let place : c.index_of-index.result + 1 ≡ x.sender = c.index_of-index.ensures.place in
    let beyond : length rows ≤ c.index_of-index.result = search rules in
    let behind : length rows ≤ x.sender - 1 = omega arith in
    ap (option_map (λ entry. entry.0))
    (sym (after_beyond rows (record { sender = x.sender; seq = x.seq }) (omega arith) behind))
    ∙ ap (λ y. option_map (λ entry. entry.0)
    (find (λ entry. name_lt y entry.0) (entries_from 1 rows))) c.name.view_is
