pub mod Resends
pub mod ResendFields
pub mod internal
