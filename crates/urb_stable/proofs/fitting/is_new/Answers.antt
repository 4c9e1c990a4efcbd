use Rattle.urb_stable.proofs.Common.{false≢true, sym, take, ◌∙◌}
use Rattle.urb_stable.proofs.FirstMisfits.{certificate-new}
use Rattle.urb_stable.proofs.fitting.is_new.Goals.{else-is_in_range, then-is_in_range}
use Rattle.urb_stable.proofs.fitting.is_new.Goals as goal

pub returns-then-is_pending : goal.returns-then-is_pending
returns-then-is_pending g c =
    elim c.if-is_in_range.branch [
      | then-is_in_range w ↦
          certificate-new c.args.config
          (take c.args.place c.args.image.now.records)
          c.args.entry.now c.in-Cert.name c.facts_before.result.certified c.in-Cert.is
          w.if-is_in_range.ensures
          (sym c.if-is_pending.true ∙ (w.value-is ∙ w.is_pending.ensures))
          (c.facts_before.ensures c.args.entry.now c.requires.here).names
      | else-is_in_range w ↦ absurd
          (false≢true (sym w.if-is_in_range.false ∙ (sym w.value-is ∙ c.if-is_pending.true)))
    ]
