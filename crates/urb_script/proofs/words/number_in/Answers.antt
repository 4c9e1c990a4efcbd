use Rattle.urb_script.proofs.Common.{arith, decimal_injective, sym, ◌∙◌}
use Rattle.urb_script.proofs.words.number_in.Goals as goal

pub returns-then-number-low-clause-none : goal.returns-then-number-low-clause-none
returns-then-number-low-clause-none c = λ n low high e.
    omega (
      arith,
      decimal_injective c.in_ok-number.number n (omega arith) (omega arith)
          (sym c.in_ok-number.ensures.some ∙ e),
    )

pub returns-then-high-number-clause-none : goal.returns-then-high-number-clause-none
returns-then-high-number-clause-none c = λ n low high e.
    omega (
      arith,
      decimal_injective c.in_ok-number.number n (omega arith) (omega arith)
          (sym c.in_ok-number.ensures.some ∙ e),
    )
