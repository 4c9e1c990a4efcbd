use Rattle.urb_stable.proofs.Common.{Entry, ap, image_of, map, sym, take, ◌∙◌}
use Rattle.urb_stable.specs.Fitting.{keeps_d}
use Rattle.urb_stable.proofs.fitting.is_certified_rightly.Goals as goal

pub returns-in-PendCert : goal.returns-in-PendCert
returns-in-PendCert g c =
    c.is_held_by_majority.ensures
    ∙ sym (ap (λ (r : Entry). keeps_d c.args.config.n
    (image_of (map (λ image. image.records) c.args.images.now))
    (take c.args.place c.args.image.now.records) r) c.in-PendCert.is)
