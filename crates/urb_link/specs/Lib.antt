pub mod Links
pub mod Doors
pub mod Backlogs
pub mod internal
