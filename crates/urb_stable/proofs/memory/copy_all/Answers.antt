use Rattle.urb_stable.proofs.Common.{[], ap, sym, take_all, ◌++◌, ◌∙◌, ◌∷◌}
use Rattle.urb_stable.proofs.AppendedElements.{take-next}
use Rattle.urb_stable.proofs.memory.copy_all.Goals as goal

pub loop-entry-preserved : goal.loop-entry-preserved
loop-entry-preserved g c =
    c.in_ok-keep.ensures.ok
    ∙ (ap (λ xs. xs ++ c.entry-item.result ∷ []) c.loop-entry.invariant
    ∙ sym (take-next c.args.records.now c.loop-entry.entry-index c.entry-item.result
    c.loop-entry-test.true c.entry-item.is))

pub returns : goal.returns
returns g c =
    c.loop-entry.invariant
    ∙ take_all c.loop-entry.entry-index c.args.records.now c.loop-entry-test.false
