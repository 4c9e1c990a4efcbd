-- Which nodes a list of journals belongs to, and the faults of opening the journals.
use Rattle.std.specs.Prelude.{List, Some, false, slice_get, suc, ℕ, ◌<◌, ◌≡◌}
use Rattle.urb_stable.specs.StableStorage.{is_place}
use Rattle.urb_folder.specs.declared.folder_fault.FolderFault.{FolderFault}
use Rattle.urb_folder.specs.declared.folder_fault.FolderFault.TheVariants.{ForeignRecords, Journal, NoMemory}

-- the journals belong to the nodes 1, 2, 3, .., in that order
abbrev pub AreOfNodes : {J : Type 0} → (J → ℕ) → List J → Type 0
AreOfNodes node journals =
    (place : ℕ) (journal : _) → slice_get journals place ≡ Some journal → node journal ≡ suc place

-- Why the journals of `nodes` nodes can't be opened. The fault of a journal is any but Place. Or the
-- folder has records of a node above that number. Or memory was refused.
abbrev pub IsOfOpening : ℕ → FolderFault → Type 0
IsOfOpening nodes (Journal number fault) = (0 < number) × (is_place fault ≡ false)
IsOfOpening nodes (ForeignRecords number) = nodes < number
IsOfOpening nodes NoMemory = Unit {0}
