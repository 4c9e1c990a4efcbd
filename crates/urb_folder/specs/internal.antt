pub mod ForeignJournals
pub mod JournalOutcomes
pub mod OpenedPlaces
pub mod RetrievedImages
