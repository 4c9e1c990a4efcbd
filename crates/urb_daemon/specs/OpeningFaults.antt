-- What the program reports if the folder of a group can't be opened.
use Rattle.urb_stable.specs.StableStorage.{refusal_of}
use Rattle.urb_options.specs.ProgramFaults.{fault_of_refusal}
use Rattle.urb_options.specs.declared.faults.Fault.{Fault}
use Rattle.urb_options.specs.declared.faults.Fault.TheVariants as fault
use Rattle.urb_folder.specs.declared.folder_fault.FolderFault.{FolderFault}
use Rattle.urb_folder.specs.declared.folder_fault.FolderFault.TheVariants.{ForeignRecords, Journal, NoMemory}

-- The fault of a journal is reported as its refusal. Records of a node that the group doesn't have
-- are reported as the refusal 14, with detail 0.
abbrev pub fault_of_folder : FolderFault → Fault
fault_of_folder NoMemory = fault.NoMemory
fault_of_folder (Journal number why) = fault_of_refusal (refusal_of why)
fault_of_folder (ForeignRecords number) = fault.Refused 14 0
