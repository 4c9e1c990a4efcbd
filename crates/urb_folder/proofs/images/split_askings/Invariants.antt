use Rattle.std.proofs.Common.{◌≡◌, ◌+◌, ◌++◌, ◌≤◌, length, map, vec_len, vec_capacity}
use Rattle.urb_folder.proofs.images.split_askings.Given as goal

-- those handled so far come before the others, and there is room for all
abbrev pub invariant-loop-asking : goal.invariant-loop-asking
invariant-loop-asking g l = (goal.iterator-loop-asking g).can_next l.asking-iterator ×
    (goal.iterator-loop-asking g).is_finite l.asking-iterator ×
    (l.stores.items ++ map (λ it. it.store) l.asking-iterator.rest.items ≡ map
    (λ it. it.store) l.fn.askings.items) ×
    (l.answers.items ++ map (λ it. it.answer) l.asking-iterator.rest.items ≡ map
    (λ it. it.answer) l.fn.askings.items) ×
    (vec_len l.stores + length l.asking-iterator.rest.items ≡ vec_len l.fn.askings)
    × (vec_len l.fn.askings ≤ vec_capacity l.stores) ×
    (vec_len l.answers + length l.asking-iterator.rest.items ≡ vec_len l.fn.askings)
    × (vec_len l.fn.askings ≤ vec_capacity l.answers)
