pub mod MissingNames
pub mod Feeds
pub mod internal
