pub mod SettledInvariant
pub mod TickWalks
