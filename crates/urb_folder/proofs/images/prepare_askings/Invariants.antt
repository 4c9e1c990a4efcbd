use Rattle.std.proofs.Common.{◌≡◌, ◌+◌, ◌++◌, ◌≤◌, length, map, vec_len, vec_capacity}
use Rattle.urb_folder.proofs.images.prepare_askings.Given as goal

-- those handled so far come before the others, and there is room for all
abbrev pub invariant-loop-store : goal.invariant-loop-store
invariant-loop-store g l = (goal.iterator-loop-store g).can_next l.store-iterator ×
    (goal.iterator-loop-store g).is_finite l.store-iterator ×
    (map (λ it. it.store) l.askings.items ++ l.store-iterator.rest.items ≡ l.fn.stores.items) ×
    (vec_len l.askings + length l.store-iterator.rest.items ≡ vec_len l.fn.stores)
    × (vec_len l.fn.stores ≤ vec_capacity l.askings)
