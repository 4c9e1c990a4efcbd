use Rattle.urb_show.proofs.Common.{length, lists_in, map, take, ◌≡◌}
use Rattle.urb_show.proofs.opened_group.copy_lists.Given as goal

abbrev pub invariant-loop-place : goal.invariant-loop-place
invariant-loop-place l =
    (map (λ v. v.items) l.lists.items ≡ take l.place (lists_in l.group))
    × (l.counts.items ≡ map length (take l.place (lists_in l.group)))
