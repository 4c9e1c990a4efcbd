-- The store's fault for a refusal of the database.
use Rattle.std.specs.Prelude.{ℕ, ◌+◌, ◌==◌, ◌||◌, Bool, true, false, if◌then◌else◌}
use Rattle.sqlite.specs.declared.error.Error.{Error}
use Rattle.sqlite.specs.declared.error.Error.TheVariants.{SqliteFailure}
use Rattle.sqlite.specs.declared.error.ErrorCode.TheVariants as code
use Rattle.urb_stable.specs.declared.stable.StoreFault.{StoreFault}
use Rattle.urb_stable.specs.declared.stable.StoreFault.TheVariants.{NoMemory, Device}

-- whether the database refused because memory was refused
abbrev pub is_memory : Error → Bool
is_memory (SqliteFailure code.OutOfMemory) = true
is_memory _ = false

-- The fault for a refusal, and the count of failures after it. Every refusal except for memory is
-- Device, and is counted. If the count is at its greatest value, the fault is NoMemory instead.
abbrev pub blamed : Error → ℕ → StoreFault × ℕ
blamed e failures =
    if is_memory e || failures == 18446744073709551615 then (NoMemory, failures) else
    (Device, failures + 1)
