-- Why a call of a node has no answer.
use Rattle.std.specs.Prelude.{⊤}
use Rattle.urb_client.specs.declared.response_receiver.ResponseFault.{ResponseFault}
use Rattle.urb_client.specs.declared.response_receiver.ResponseFault.TheVariants as response
use Rattle.urb_cli.specs.declared.client.call_fault.CallFault.{CallFault}
use Rattle.urb_cli.specs.declared.client.call_fault.CallFault.TheVariants as call

-- memory was refused; the fault has the witness of it
abbrev pub IsNoMemory : CallFault → Type 0
IsNoMemory (call.NoMemory refused) = ⊤
IsNoMemory _ = ⊥

-- the system made no connection, or no limit of one; the fault has the witness of it
abbrev pub IsUnconnected : CallFault → Type 0
IsUnconnected (call.NobodyListens refused) = ⊤
IsUnconnected (call.NotConnected refused) = ⊤
IsUnconnected _ = ⊥

-- the fault of a call whose response could not be read
abbrev pub fault_of_response : ResponseFault → CallFault
fault_of_response (response.Read failed) = call.NotRead failed
fault_of_response (response.NoMemory refused) = call.NoMemory refused
fault_of_response response.NoResponse = call.BadReply
