pub mod PendingSet
pub mod PendingFields
pub mod internal
