-- How a run of a group ends the program.
use Rattle.std.specs.Prelude.{Bool, Err, None, Ok, Option, Result, Some, false, true, ℕ}
use Rattle.urb_daemon.specs.declared.serve_fault.ServeFault.{ServeFault}
use Rattle.urb_daemon.specs.declared.serve_fault.ServeFault.TheVariants.{NoMemory, Untold}

-- the end, by the count of its events and by whether its opening could be reported
abbrev pub end_of : Option ℕ → Bool → Result ℕ ServeFault
end_of (Some events) true = Ok events
end_of (Some events) false = Err Untold
end_of None told = Err NoMemory
