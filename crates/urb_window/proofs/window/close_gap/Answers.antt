use Rattle.urb_window.proofs.Common.{AreOver, [], ap, counted_from, false, holds_at, length, rules}
use Rattle.urb_window.proofs.Common.{subst, sym, ◌++◌, ◌+◌, ◌<◌, ◌^◌, ◌∙◌, ◌∷◌, ◌≡◌}
use Rattle.urb_window.proofs.GapClosings.{IsMoved, gap_is, moves}
use Rattle.urb_window.proofs.window.close_gap.Goals as goal

pub loop-value-preserved : goal.loop-value-preserved
loop-value-preserved g c =
    let kept = c.loop-value.invariant in
    let low = c.loop-value.low.items in
    let above = c.loop-value.above.items in
    let v = c.in-Some.value in
    let rest = c.take_first.new.above.items in
    let long : c.len.result ≡ length low = search rules in
    let some : above ≡ (c.len.result + 1, v) ∷ rest = search rules in
    let first : above ≡ (length low + 1, v) ∷ rest = some ∙ ap (λ n. (n + 1, v) ∷ rest) long in
    let push : c.push_reserved.new.self.items ≡ low ++ v ∷ [] = c.push_reserved.ensures.items in
    let moved : IsMoved low ((length low + 1, v) ∷ rest) (low ++ v ∷ []) rest =
    moves low v rest (subst (AreOver (length low)) first kept.over) in
    record {
      pairs =
          ap (λ vs. counted_from 1 vs ++ rest) push
          ∙ (moved.pairs ∙ (ap (λ ps. counted_from 1 low ++ ps) (sym first) ∙ kept.pairs));
      over = subst (λ vs. AreOver (length vs) rest) (sym push) moved.over;
      few = subst (λ vs. length vs < 2 ^ 32) (sym push) moved.few;
      room = search rules;
    }

pub returns-clause-row : goal.returns-clause-row
returns-clause-row g c =
    let kept = c.loop-value.invariant in
    let low = c.loop-value.low.items in
    let above = c.loop-value.above.items in
    let long : c.len.result + 1 ≡ length low + 1 = search rules in
    let none : holds_at above 0 (c.len.result + 1) ≡ false = search rules in
    let same : c.take_first.new.above.items ≡ above = search rules in
    record {
      low = kept.few;
      above =
          subst (AreOver (length low + 1)) (sym same)
          (gap_is (length low) above kept.over (ap (holds_at above 0) (sym long) ∙ none));
    }
