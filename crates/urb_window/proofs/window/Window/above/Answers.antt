use Rattle.std.proofs.Common.{◌<◌, ◌^◌, arith, length}
use Rattle.urb_window.proofs.NumberedValues.{few_above}
use Rattle.urb_window.proofs.window.Window.above.Goals as goal

pub overflow_cast-result : goal.overflow_cast-result
overflow_cast-result g c =
    let few : length c.self.inside.above.items < 2 ^ 32 = few_above _ c.self.invariant.row in
    record { fits = omega arith }
