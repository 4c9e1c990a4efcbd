pub mod Fuses
pub mod internal
