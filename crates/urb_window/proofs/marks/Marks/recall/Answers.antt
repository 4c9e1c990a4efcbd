use Rattle.std.proofs.Common.{subst}
use Rattle.urb_window.specs.Marks.{IsMarkSet}
use Rattle.urb_window.proofs.MaskPairs.{marks_rise}
use Rattle.urb_window.proofs.MaskClearings.{names_rise}
use Rattle.urb_window.proofs.marks.Marks.recall.Goals as goal

pub returns : goal.returns
returns g c =
    let entries = c.self.inside.masks.entries in
    subst IsMarkSet c.self.view_is
    (record {
      marks = marks_rise entries c.recall.ensures.rising;
      roomy =
          names_rise entries c.recall.ensures.rising;
    })
