pub mod AckOutcomes
pub mod Acks
pub mod AckFields
pub mod internal
