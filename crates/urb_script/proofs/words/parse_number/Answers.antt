use Rattle.urb_script.proofs.Common.{IsUtf8, ap, arith, get_or, length, subst, sym, ◌∙◌}
use Rattle.std.proofs.lemmas.Fmt.{decimal_nonempty}
use Rattle.urb_script.proofs.NumberWords.{decimal_no_plus, decimal_text, decimal_zero, only_zero}
use Rattle.urb_script.proofs.NumberWords.{reads_none, reads_some}
use Rattle.urb_script.proofs.words.parse_number.Goals as goal

pub returns-then-is_empty-clause-none : goal.returns-then-is_empty-clause-none
returns-then-is_empty-clause-none c =
    λ n small e. grind (arith, decimal_nonempty n small, ap length e)

pub returns-then-first-eq43-clause-none : goal.returns-then-first-eq43-clause-none
returns-then-first-eq43-clause-none c =
    λ n small e. decimal_no_plus n small (sym (ap (λ bs. get_or bs 0 0) e) ∙ c.if-first-eq43.true)

pub returns-then-word-eq1-clause-some : goal.returns-then-word-eq1-clause-some
returns-then-word-eq1-clause-some c =
    only_zero c.args.word.now c.if-first-eq48.true c.if-word-eq1.true

pub returns-else-word-eq1-clause-none : goal.returns-else-word-eq1-clause-none
returns-else-word-eq1-clause-none c =
    λ n small e. c.if-word-eq1.false
    (ap length e ∙ decimal_zero n small (sym (ap (λ bs. get_or bs 0 0) e) ∙ c.if-first-eq48.true))

pub returns-in_default-clause-none : goal.returns-in_default-clause-none
returns-in_default-clause-none c =
    λ n small e. c.in_default.ensures.cases.0 (subst IsUtf8 (sym e) (decimal_text n small))

pub returns-in_default-parse-clause-none : goal.returns-in_default-parse-clause-none
returns-in_default-parse-clause-none c =
    reads_none c.args.word.now c.if-first-eq43.false
    (rw c.in-Ok.ensures.cases.0 at c.in_default-parse.ensures.value.0)

pub returns-clause-some : goal.returns-clause-some
returns-clause-some c =
    reads_some c.args.word.now c.in-Ok-parse.number c.if-first-eq43.false c.if-first-eq48.false
    (rw c.in-Ok.ensures.cases.0 at c.in-Ok-parse.ensures.value.0)
