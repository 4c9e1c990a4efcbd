pub mod Desks
pub mod IdleTimes
pub mod Sends
pub mod DeskExamples
pub mod NextSubmits
