-- A store that holds records ahead, after a call, as the code computes it.
use Rattle.std.specs.Prelude.{cond, length, nat_lt, true, ℕ, ◌+◌, ◌-◌, ◌^◌, ◌≡◌}
use Rattle.urb_stable.specs.AheadStores.{AheadView, IsTrusted, given_out, next_place}
use Rattle.urb_stable.specs.declared.stable.Stable.{Ghosts}
use Rattle.urb_stable.specs.internal.RecordQueues.{moved_on}

-- how often a store has failed after a call that fails here
abbrev pub failures_after : ℕ → ℕ
failures_after failures = cond (nat_lt failures (2 ^ 64 - 1)) (failures + 1) failures

-- the store once the first record ahead is taken
abbrev pub once_taken_ahead : {S : Type 0} → AheadView S → AheadView S
once_taken_ahead s = record s {
  base = (moved_on s.base s.ahead).taken;
  ahead = (moved_on s.base s.ahead).left;
}

-- the store once a retrieve must come first, after one failure more
abbrev pub once_spent : {S : Type 0} → AheadView S → AheadView S
once_spent s = record s { spent = true; failures = failures_after s.failures }

-- the next position of an honest store is the one after its certain records
abbrev pub IsCountedOver : {S A : Type 0} → Ghosts S A → AheadView S → Type 0
IsCountedOver g s = IsTrusted g s
    → next_place g s ≡ length (given_out (g.certain s.store) s.base s.ahead) + 1
