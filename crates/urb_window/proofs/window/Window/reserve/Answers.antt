use Rattle.std.proofs.Common.{refl, arith}
use Rattle.urb_window.proofs.PreservedRows.{roomy_bigger}
use Rattle.urb_window.proofs.window.Window.reserve.Goals as goal

-- the lower part's allocation was refused
pub invariant_of-self : goal.invariant_of-self
invariant_of-self g c =
    let grown = c.reserve.ensures in
    roomy_bigger c.self.inside _ refl grown.items grown.len grown.capacity refl refl
    (omega arith) c.self.invariant

-- the upper part's allocation was refused
pub invariant_of-self-in_err-reserve-2 : goal.invariant_of-self-in_err-reserve-2
invariant_of-self-in_err-reserve-2 g c =
    let grown = c.reserve-else-is_next.ensures in
    roomy_bigger c.self.inside _ refl refl refl
    (omega arith) grown.items grown.len grown.capacity c.self.invariant
