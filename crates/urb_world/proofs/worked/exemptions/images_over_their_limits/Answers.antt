-- The first record of node 1 is over its limits.
use Rattle.urb_world.proofs.Common.{IsEntry, [], arith, ◌<◌}
use Rattle.urb_world.specs.internal.Examples.{pending}
use Rattle.urb_world.proofs.worked.exemptions.images_over_their_limits.Goals as goal

pub returns-clause-of_no_sender : goal.returns-clause-of_no_sender
returns-clause-of_no_sender c images =
    let first : IsEntry (pending 0 1) =
    images.limits 0 [] (omega arith) 0 (pending 0 1) (omega arith) in
    let low : 0 < 0 = first.0.sender.0 in omega (arith, low)

pub returns-clause-of_no_number : goal.returns-clause-of_no_number
returns-clause-of_no_number c images =
    let first : IsEntry (pending 1 0) =
    images.limits 0 [] (omega arith) 0 (pending 1 0) (omega arith) in
    let low : 0 < 0 = first.0.seq.0 in omega (arith, low)
