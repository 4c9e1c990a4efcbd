-- The log of any records is in order, and has no name twice.
use Rattle.urb_world.proofs.Common.{ap, cert, length, length-row, log, no_name_twice, part-released}
use Rattle.urb_world.proofs.Common.{part_of, reach, reverse, row, sym, ◌∙◌, ◌≡◌}
use Rattle.urb_world.proofs.worked.logs.what_every_log_is.Goals as goal

pub returns-clause-numbers : goal.returns-clause-numbers
returns-clause-numbers c records s =
    let e : part_of s (log records) ≡ row s 1 (reach s (reverse (cert records))) =
    part-released s (reverse (cert records)) in
    let l : length (part_of s (log records)) ≡ reach s (reverse (cert records)) =
    ap length e ∙ length-row s 1 (reach s (reverse (cert records))) in
    e ∙ ap (row s 1) (sym l)

pub returns-clause-no_twice : goal.returns-clause-no_twice
returns-clause-no_twice c records = no_name_twice (reverse (cert records))
