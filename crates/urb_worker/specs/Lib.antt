pub mod Acts
pub mod ServedStores
pub mod TicketBatches
pub mod internal
