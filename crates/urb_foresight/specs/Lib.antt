pub mod ForeseenDrafts
pub mod internal
