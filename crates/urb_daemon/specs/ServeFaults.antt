-- What the program reports if a group doesn't run.
use Rattle.urb_options.specs.ProgramFaults.{fault_of_refusal}
use Rattle.urb_options.specs.declared.faults.Fault.{Fault}
use Rattle.urb_options.specs.declared.faults.Fault.TheVariants as fault
use Rattle.urb_daemon.specs.declared.network_fault.NetworkFault.TheVariants as network
use Rattle.urb_daemon.specs.declared.serve_fault.ServeFault.{ServeFault}
use Rattle.urb_daemon.specs.declared.serve_fault.ServeFault.TheVariants.{Network, NoMemory, Unopened}
use Rattle.urb_daemon.specs.declared.serve_fault.ServeFault.TheVariants.{Untold}

-- The program's fault for a group that doesn't run. A refused opening becomes its refusal.
abbrev pub fault_of_serve : ServeFault → Fault
fault_of_serve (Unopened why) = fault_of_refusal why
fault_of_serve (Network network.NoMemory) = fault.NoMemory
fault_of_serve (Network why) = fault.Network
fault_of_serve Untold = fault.Write
fault_of_serve NoMemory = fault.NoMemory
