-- What comes before the second fault isn't open.
use Rattle.std.proofs.Common.{Err, List, Ok, Result, [], arith, ℕ, ◌++◌, ◌∷◌, ◌≡◌}
use Rattle.std.specs.List.{All}
use Rattle.urb_folder.specs.ParallelOutcomes.{IsOpen}
use Rattle.urb_journal_examples.proofs.worked.journal_folders.which_fault_is_first.Goals as goal

none : (earlier later : List (Result ℕ ℕ)) → [] ≡ earlier ++ Err 2 ∷ later → ⊥
none [] later were = absurd (cc)
none (x ∷ earlier) later were = absurd (cc)

not-open : (x : Result ℕ ℕ) → Err 1 ≡ x → IsOpen x → ⊥
not-open (Ok n) is there = absurd (cc)
not-open (Err n) is there = absurd there

second : (earlier later : List (Result ℕ ℕ)) → Err 1 ∷ Err 2 ∷ [] ≡ earlier ++ Err 2 ∷ later
    → All IsOpen earlier → ⊥
second [] later were there = absurd (cc)
second (x ∷ earlier) later were there =
    let is : Err 1 ≡ x = cc in not-open x is (there 0 (Err 1) (omega arith))

pub returns-clause-not_among_none : goal.returns-clause-not_among_none
returns-clause-not_among_none c h = none h.earlier h.later h.were

pub returns-clause-not_the_second : goal.returns-clause-not_the_second
returns-clause-not_the_second c h = second h.earlier h.later h.were h.there
