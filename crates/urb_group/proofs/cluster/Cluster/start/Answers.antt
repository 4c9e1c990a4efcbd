use Rattle.std.proofs.Common.{rules}
use Rattle.urb_group.proofs.calls.ArmedStores.{started-tied}
use Rattle.urb_group.proofs.cluster.Cluster.start.Goals as goal

pub invariant_of-result : goal.invariant_of-result
invariant_of-result g c = started-tied _ c.args.config _ _ (search rules) c.requires (search rules)
