-- What a store that was asked to take out its last records answered, and what it holds after that.
use Rattle.std.specs.Prelude.{IfErr, Result, true, ℕ, ◌≡◌}
use Rattle.urb_stable.specs.StableStorage.{CountsFailures, KeepsTrust, is_place}
use Rattle.urb_stable.specs.StoredTogether.{MovesPlace}
use Rattle.urb_stable.specs.WithdrawnRecords.{IsUnlessPlace, KeepsDoubt, Withdraws}
use Rattle.urb_stable.specs.declared.stable.Stable.{Ghosts}
use Rattle.urb_stable.specs.declared.stable.StoreFault.{StoreFault}

module _ {S A : Type 0} (g : Ghosts S A) where
  -- The store `before` was asked to take out its last `count` records, and gave this answer, as a
  -- store promises.
  pub record TakesOut (before : S) (count : ℕ) (answer : Result (Unit {0}) StoreFault) (after : S)
      : Type 0 where
    pub same : IfErr answer (λ e. is_place e ≡ true → after ≡ before)
    pub withdraws : IsUnlessPlace answer (Withdraws (g.certain before) (g.certain after)
        (g.doubt after) count answer (g.is_honest before) (g.is_clean after) (g.is_honest after)
        (g.leaves_only after))
    pub moved : MovesPlace (g.place after) (g.place before) count answer
    pub doubted : KeepsDoubt (g.is_doubtful before) (g.doubt before) (g.is_doubtful after)
        (g.doubt after)
    pub counts : CountsFailures (g.failures before) (g.failures after) answer
    pub trust : KeepsTrust (g.is_clean before) (g.is_honest before) (g.is_clean after)
        (g.is_honest after) (g.is_shut after) answer
