pub mod Delivery
pub mod NewReleases
pub mod LogFields
pub mod internal
