pub mod ClientDesks
pub mod ClientLimits
pub mod Desks
pub mod internal
