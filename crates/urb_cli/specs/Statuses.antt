-- The program's status after a run of a script, a response, or a client's command.
use Rattle.std.specs.Prelude.{ℕ, Err, Ok, Result, ◌≡◌, ◌⊎◌}
use Rattle.urb_options.specs.declared.faults.Fault.{Fault}
use Rattle.urb_options.specs.declared.faults.Fault.TheVariants as fault
use Rattle.urb_cli.specs.declared.client.call_fault.CallFault.{CallFault}
use Rattle.urb_cli.specs.declared.client.call_fault.CallFault.TheVariants as call
use Rattle.urb_options.specs.declared.task.Errand.{Errand}
use Rattle.urb_options.specs.declared.task.Errand.TheVariants as errand
use Rattle.urb_script.specs.declared.runs.RunEnd.{RunEnd}
use Rattle.urb_script.specs.declared.runs.RunEnd.TheVariants.{Whole, BadLine}
use Rattle.urb_script.specs.declared.runs.RunFault.{RunFault}

-- 0 for a script that is whole, 2 for one with a bad line, 1 for a fault
abbrev pub status_of : Result RunEnd RunFault → ℕ
status_of (Ok Whole) = 0
status_of (Ok (BadLine line)) = 2
status_of (Err broken) = 1

-- a run of a script ends well, with a fault, or with a bad line
abbrev pub IsScriptsEnd : ℕ → Type 0
IsScriptsEnd status = (status ≡ 0) ⊎ (status ≡ 1) ⊎ (status ≡ 2)

-- a client's command ends well, with a fault, or with a refusal of the node
abbrev pub IsClientsEnd : ℕ → Type 0
IsClientsEnd status = (status ≡ 0) ⊎ (status ≡ 1) ⊎ (status ≡ 4)

-- an errand ends like its run if it is a script, and else like a client's command
abbrev pub IsErrandsEnd : Errand → ℕ → Type 0
IsErrandsEnd errand.Replay status = IsScriptsEnd status
IsErrandsEnd (errand.Submit submitting) status = IsClientsEnd status
IsErrandsEnd (errand.Read reading) status = IsClientsEnd status
IsErrandsEnd (errand.Status asking) status = IsClientsEnd status
IsErrandsEnd (errand.Publish publishing) status = IsClientsEnd status
IsErrandsEnd (errand.Follow following) status = IsClientsEnd status

-- the program's fault if a call of a node has no answer
abbrev pub fault_of_call : CallFault → Fault
fault_of_call (call.NobodyListens refused) = fault.Network
fault_of_call (call.NotConnected refused) = fault.Network
fault_of_call (call.NoMemory refused) = fault.NoMemory
fault_of_call (call.NotSent failed) = fault.Write
fault_of_call (call.NotRead failed) = fault.Read
fault_of_call call.BadReply = fault.BadReply
