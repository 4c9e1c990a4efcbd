use Rattle.urb_window.proofs.Common.{ap, arith, length, pairs_of, rules, ◌+◌, ◌<◌, ◌≡◌}
use Rattle.urb_window.proofs.RemainingEntries.{at_end, count_at, entries_at}
use Rattle.urb_window.proofs.rows.count_of.Goals as goal

pub loop-row-init : goal.loop-row-init
loop-row-init g c = record { all = omega arith; few = omega arith }

pub overflow_add-count : goal.overflow_add-count
overflow_add-count g c =
    let within : c.loop-row.row-index < length c.args.rows.now = search rules in
    record { fits = omega (arith, c.loop-row.invariant.few, c.count-count.ensures.few, c.requires) }

pub loop-row-preserved : goal.loop-row-preserved
loop-row-preserved g c =
    let rows = c.args.rows.now in
    let i = c.loop-row.row-index in
    let row = c.row-item.result in
    let within : i < length rows = search rules in
    let next : length (entries_at i rows) ≡ length (pairs_of row) + length
    (entries_at (i + 1) rows) = count_at rows i row within c.row-item.is in
    let here : c.count-count.result ≡ length (pairs_of row) = c.count-count.ensures.value in
    record {
      all = omega (arith, c.loop-row.invariant.all);
      few =
          omega (arith, c.loop-row.invariant.few, c.count-count.ensures.few);
    }

pub returns : goal.returns
returns g c =
    let rows = c.args.rows.now in
    let none : length (entries_at c.loop-row.row-index rows) ≡ 0 =
    ap (λ es. length es) (at_end rows c.loop-row.row-index (search rules)) in
    omega (arith, c.loop-row.invariant.all)
