-- How long a client may be idle.
use Rattle.std.specs.Prelude.{Bool, if◌then◌else◌, ℕ}
use Rattle.urb_desk.specs.declared.connections.ClientLimits.{ClientLimits}

-- after how many idle times a connection is closed: one if the node serves as many as it may
abbrev pub idle_times_of : ClientLimits → Bool → ℕ
idle_times_of limits is_full = if is_full then 1 else limits.idle_times
