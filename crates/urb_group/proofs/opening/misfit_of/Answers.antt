use Rattle.urb_group.proofs.Common.{Entry, List, ap, first_misfit, ◌∙◌}
use Rattle.urb_stable.specs.Images.{image_of}
use Rattle.urb_group.proofs.opening.misfit_of.Goals as goal

pub returns : goal.returns
returns g c =
    c.first_misfit.ensures ∙ ap (λ (xs : List (List Entry)).
    first_misfit c.args.config (image_of xs)) c.in_ok-read.ensures
