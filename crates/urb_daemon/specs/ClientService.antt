-- The limits of the clients of a group, from its options.
use Rattle.std.specs.Prelude.{◌≡◌, ◌≤◌, ℕ}
use Rattle.urb_options.specs.declared.service_options.ServiceOptions.{ServiceOptions}
use Rattle.urb_desk.specs.ClientLimits.{limits_of_clients}
use Rattle.urb_desk.specs.declared.connections.ClientLimits.{ClientLimits}
use Rattle.urb_desk.specs.declared.connections.TheConstants.{LEAST_CONNECTIONS}

-- the limits that these options ask for, with so many connections
abbrev pub limits_asked : ServiceOptions → ℕ → ClientLimits
limits_asked service connections =
    limits_of_clients connections service.idle_minutes service.may_crash

-- The limits are those that the options ask for. If there are few descriptors, a node serves fewer
-- connections, but at least LEAST_CONNECTIONS.
abbrev pub FitService : ServiceOptions → ClientLimits → Type 0
FitService service limits =
    (limits ≡ limits_asked service limits.connections)
    × (LEAST_CONNECTIONS ≤ limits.connections) × (limits.connections ≤ service.connections)
