use Rattle.urb_stable.proofs.Common.{[], first_of_all, flat_map, image_of, misfits_behind}
use Rattle.urb_stable.proofs.Common.{numbers_from, suc, ◌-◌, ◌≡◌}
use Rattle.urb_stable.specs.Fitting.{first_misfit}
use Rattle.urb_stable.proofs.fitting.Images.first_misfit.Given as goal

abbrev pub invariant-loop-i : goal.invariant-loop-i
invariant-loop-i g l =
    first_of_all (flat_map (λ p. misfits_behind l.config (image_of l.self) p [] (image_of l.self p))
    (numbers_from (suc l.i) (l.config.n - l.i))) ≡ first_misfit l.config (image_of l.self)
