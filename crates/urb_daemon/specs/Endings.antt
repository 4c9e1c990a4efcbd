-- What a run of a group writes to standard output, and the status of the program after it.
use Rattle.std.specs.Prelude.{Err, List, Ok, Option, Result, [], codes, ℕ, ◌++◌, ◌∷◌, ◌≡◌, ◌⊎◌}
use Rattle.std.specs.Fmt.{decimal}
use Rattle.std.specs.Io.KnownBytes.{Appends}
use Rattle.urb_daemon.specs.declared.serve_fault.ServeFault.{ServeFault}

-- the line of a group that ended after so many events
abbrev pub closed_line : ℕ → List ℕ
closed_line events = codes "closed " ++ (decimal events ++ 10 ∷ [])

-- What is written to standard output at the end, and the status. A run with a fault writes nothing,
-- and the status is 1. After any other run the status is 0 if the line with its events was written,
-- and else 1.
abbrev pub ShowsEnd : Result ℕ ServeFault → Option (List ℕ) → Option (List ℕ) → ℕ → Type 0
ShowsEnd (Ok events) old new status =
    ((status ≡ 0) × Appends old new (closed_line events)) ⊎ (status ≡ 1)
ShowsEnd (Err why) old new status = (status ≡ 1) × (new ≡ old)
