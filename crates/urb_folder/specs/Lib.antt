pub mod GroupsAfterStop
pub mod OpenedJournals
pub mod StoppedFiles
pub mod ParallelOutcomes
pub mod AskedStores
pub mod internal
