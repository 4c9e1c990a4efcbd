-- The faults that end the program before its work is done.
use Rattle.urb_names.specs.RefusalReports.{detail_of, number_of}
use Rattle.urb_names.specs.declared.refusal.Refusal.{Refusal}
use Rattle.urb_names.specs.declared.refusal.Refusal.TheVariants as refusal
use Rattle.urb_options.specs.declared.faults.Fault.{Fault}
use Rattle.urb_options.specs.declared.faults.Fault.TheVariants as fault
use Rattle.urb_script.specs.declared.runs.RunFault.{RunFault}
use Rattle.urb_script.specs.declared.runs.RunFault.TheVariants.{Read, Write, NoMemory}

-- the program's fault for a fault of a run
abbrev pub fault_of_run : RunFault → Fault
fault_of_run Read = fault.Read
fault_of_run Write = fault.Write
fault_of_run NoMemory = fault.NoMemory

-- the program's fault for a refusal at an opening
abbrev pub fault_of_refusal : Refusal → Fault
fault_of_refusal refusal.NoMemory = fault.NoMemory
fault_of_refusal r = fault.Refused (number_of r) (detail_of r)
