-- The limits of a node's clients.
use Rattle.std.specs.Prelude.{Bool, ℕ}
use Rattle.urb_desk.specs.declared.connections.ClientLimits.{ClientLimits}
use Rattle.urb_desk.specs.declared.connections.TheConstants.{FRAME_MILLIS, IDLE_MILLIS}

-- at most so many connections, and so many minutes without a byte; clients may crash the node or
-- may not
abbrev pub limits_of_clients : ℕ → ℕ → Bool → ClientLimits
limits_of_clients connections idle_minutes may_crash = record {
  connections = connections;
  frame_millis = FRAME_MILLIS;
  idle_millis = IDLE_MILLIS;
  idle_times = idle_minutes;
  may_crash = may_crash;
}
