-- How a command ends that makes many calls.
use Rattle.std.specs.Prelude.{◌≡◌, ⊤, ℕ, List, Option, Result, Ok, Err}
use Rattle.urb_cli.specs.Statuses.{fault_of_call}
use Rattle.urb_options.specs.declared.faults.Fault.{Fault}
use Rattle.urb_options.specs.declared.faults.Fault.TheVariants as program
use Rattle.urb_cli.specs.declared.client.stream_fault.StreamEnd.{StreamEnd}
use Rattle.urb_cli.specs.declared.client.stream_fault.StreamEnd.TheVariants.{Done, Refused}
use Rattle.urb_cli.specs.declared.client.stream_fault.StreamFault.{StreamFault}
use Rattle.urb_cli.specs.declared.client.stream_fault.StreamFault.TheVariants as fault
use Rattle.urb_cli.specs.declared.client.stream_fault.TextFault.{TextFault}
use Rattle.urb_cli.specs.declared.client.stream_fault.TextFault.TheVariants as text

-- 0 if all was done, 4 after a refusal, 1 after a fault
abbrev pub status_of_stream : Result StreamEnd StreamFault → ℕ
status_of_stream (Ok Done) = 0
status_of_stream (Ok Refused) = 4
status_of_stream (Err fault) = 1

-- the program's fault if a command breaks off
abbrev pub fault_of_stream : StreamFault → Fault
fault_of_stream (fault.Call why) = fault_of_call why
fault_of_stream (fault.Input failed) = program.Read
fault_of_stream (fault.Output failed) = program.Write
fault_of_stream (fault.NoMemory refused) = program.NoMemory
fault_of_stream fault.AtEnd = program.BadReply

-- why a command breaks off if it gets no text
abbrev pub fault_of_text : TextFault → StreamFault
fault_of_text (text.Read failed) = fault.Input failed
fault_of_text (text.NoMemory refused) = fault.NoMemory refused

-- Lines aren't written, or not whole, for this reason, and this is the output after it. Memory was
-- refused before the first byte, or the output failed. The fault has the witness of it.
abbrev pub IsUnwritten : StreamFault → Option (List ℕ) → Option (List ℕ) → Type 0
IsUnwritten (fault.Output failed) old new = ⊤
IsUnwritten (fault.NoMemory refused) old new = new ≡ old
IsUnwritten _ old new = ⊥
