pub mod RowOperations
pub mod SenderRows
pub mod RowInvariant
pub mod WindowInvariant
pub mod EntryMasks
