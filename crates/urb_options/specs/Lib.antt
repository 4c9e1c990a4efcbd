pub mod Addresses
pub mod CommandLine
pub mod Doors
pub mod OptionRanges
pub mod ProgramFaults
pub mod Tasks
pub mod internal
