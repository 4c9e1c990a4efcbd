use Rattle.urb_stable.proofs.Common.{[], drop, first_of_all, image_of, map, misfits_behind, take}
use Rattle.urb_stable.proofs.Common.{◌≡◌}
use Rattle.urb_stable.proofs.fitting.misfit_in.Given as goal

abbrev pub invariant-loop-i : goal.invariant-loop-i
invariant-loop-i g l =
    first_of_all (misfits_behind l.config (image_of (map (λ image. image.records) l.images)) l.node
    (take l.i l.image.records) (drop l.i l.image.records))
    ≡ first_of_all (misfits_behind l.config
    (image_of (map (λ image. image.records) l.images)) l.node [] l.image.records)
