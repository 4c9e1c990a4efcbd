pub mod Following
pub mod Publishing
