pub mod Entries
pub mod WindowSet
pub mod Row
pub mod RowEntries
pub mod WindowFields
pub mod NodeMasks
pub mod Marks
pub mod internal
