-- The settings that the daemon takes.
use Rattle.std.specs.Prelude.{ℕ, ◌<◌, ◌≤◌}
use Rattle.urb_names.specs.declared.limits.TheConstants.{MAX_CAP, MAX_NODES}
use Rattle.urb_options.specs.declared.limits.TheConstants.{MIN_BASE_PORT, MAX_BASE_PORT}
use Rattle.urb_options.specs.declared.limits.TheConstants.{MAX_TICK_MILLIS}
use Rattle.urb_options.specs.declared.limits.TheConstants.{MIN_CONNECTIONS, MAX_CONNECTIONS}
use Rattle.urb_options.specs.declared.limits.TheConstants.{MAX_IDLE_MINUTES}

-- One to MAX_NODES nodes, and a cap of one to MAX_CAP messages. The ports from the base on exist.
-- From one tick to the next there are at most MAX_TICK_MILLIS milliseconds.
abbrev pub AreInRange : ℕ → ℕ → ℕ → ℕ → Type 0
AreInRange nodes cap base every =
    (0 < nodes) × (nodes ≤ MAX_NODES) × (0 < cap) × (cap ≤ MAX_CAP)
    × (MIN_BASE_PORT ≤ base) × (base ≤ MAX_BASE_PORT) × (0 < every) × (every ≤ MAX_TICK_MILLIS)

-- MIN_CONNECTIONS to MAX_CONNECTIONS connections of clients at a time, and one to MAX_IDLE_MINUTES
-- minutes without a byte
abbrev pub AreServiceRanges : ℕ → ℕ → Type 0
AreServiceRanges connections idle_minutes =
    (MIN_CONNECTIONS ≤ connections) × (connections ≤ MAX_CONNECTIONS)
    × (0 < idle_minutes) × (idle_minutes ≤ MAX_IDLE_MINUTES)
