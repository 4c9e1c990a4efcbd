pub mod GroupValues
pub mod JournalValues
