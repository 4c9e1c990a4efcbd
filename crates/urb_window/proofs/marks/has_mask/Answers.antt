use Rattle.std.proofs.Common.{sym, ap, ◌∙◌, is_some}
use Rattle.urb_window.proofs.marks.has_mask.Goals as goal
use Rattle.urb_names.proofs.TruthValues.{mapped_some}

pub returns : goal.returns
returns g c =
    c.is_some.ensures ∙ (sym (mapped_some (λ v. v.now) c.get.result) ∙ ap is_some c.get.ensures)
