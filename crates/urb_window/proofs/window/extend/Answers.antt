use Rattle.urb_window.proofs.Common.{[], ap, counted_from, ◌++◌, ◌+◌, ◌∙◌, ◌∷◌, ◌≡◌}
use Rattle.urb_window.proofs.GapClosings.{extends}
use Rattle.urb_window.proofs.window.extend.Goals as goal

pub returns-clause-pairs : goal.returns-clause-pairs
returns-clause-pairs g c =
    let low = c.args.low.now.items in
    let above = c.args.above.now.items in
    let v = c.args.value in
    let push : c.push_reserved.new.self.items ≡ low ++ v ∷ [] =
    c.push_reserved.ensures.items ∙ ap (λ vs. vs ++ v ∷ []) c.reserve.ensures.items in
    c.close_gap.ensures.pairs ∙ (ap (λ vs. counted_from 1 vs ++ above) push
    ∙ extends low above v c.requires.row.above)
