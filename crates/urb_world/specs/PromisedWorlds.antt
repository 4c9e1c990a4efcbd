-- What the headline promises of a world.
use Rattle.std.specs.Prelude.{ℕ}
use Rattle.urb_names.specs.ListPrefixes.{OneBegins}
use Rattle.urb_stable.specs.DeliveredLogs.{entries_of}
use Rattle.urb_world.specs.SafetyProperties.{OneMessage, Safe}
use Rattle.urb_world.specs.World.{World, stored}

-- The headline. Each node's log holds, for each sender, the first messages that this sender's
-- storage took, in order and once. The storages of a majority hold each delivered message. For each
-- sender, its messages in one of two nodes' logs are a prefix of those in the other.
pub record IsPromised (w : World) : Type 0 where
  pub safe : Safe w
  pub agree : (p q s : ℕ) → OneBegins (entries_of s (stored w p)) (entries_of s (stored w q))
  pub one_message : OneMessage w
