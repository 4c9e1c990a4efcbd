pub mod Addresses
pub mod Doors
