use Rattle.urb_window.proofs.Common.{AllByRecursion, IsRow, MAX_SENDERS, [], ap, arith}
use Rattle.urb_window.proofs.Common.{entries_from, length, no_row, rules, subst, sym, ◌++◌, ◌<◌}
use Rattle.urb_window.proofs.Common.{◌∙◌, ◌∷◌, ◌≡◌}
use Rattle.urb_window.proofs.RowChanges.{all_more, more_rows}
use Rattle.urb_window.proofs.rows.fill.Goals as goal

pub loop-alloc-preserved : goal.loop-alloc-preserved
loop-alloc-preserved g c =
    let kept = c.loop-alloc.invariant in
    let rows = c.loop-alloc.rows.items in
    let push : c.push.new.self.items ≡ rows ++ no_row ∷ [] = search rules in
    let few : length rows < MAX_SENDERS = search rules in
    record {
      entries = ap (entries_from 1) push ∙ (more_rows 1 rows ∙ kept.entries);
      all = λ h. subst (AllByRecursion IsRow) (sym push) (all_more rows (kept.all h));
      most = search rules;
      full =
          λ e. let same : length rows ≡ MAX_SENDERS = ap (λ rs. length rs) (kept.full e) ∙ e in
          absurd (omega arith);
    }
