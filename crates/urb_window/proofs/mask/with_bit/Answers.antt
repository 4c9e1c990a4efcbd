use Rattle.std.proofs.Common.{◌≡◌, ◌<◌, ◌+◌, ◌-◌, ◌^◌, false, sym, subst, ◌∙◌, arith, ℕ, Fits, w8}
use Rattle.std.proofs.Math.Facts.{Fits-of_lt}
use Rattle.urb_window.proofs.MaskBits.{is_set, set_fits, set_is}
use Rattle.urb_window.proofs.mask.with_bit.Goals as goal

pub overflow_add-result : goal.overflow_add-result
overflow_add-result c =
    let place = c.args.number - 1 in
    let clear : is_set c.args.mask place ≡ false =
    sym (set_is c.args.mask place) ∙ c.requires.new in
    let within : place < 8 = omega (arith, c.requires.range) in
    let sum : c.args.mask + 2 ^ place < 2 ^ 8 =
    set_fits c.args.mask place 8 within c.ranges.mask.fits clear in
    subst (λ (m : ℕ). Fits w8 (c.args.mask + m)) (sym c.bit_of.ensures) (Fits-of_lt {w = w8} sum)
