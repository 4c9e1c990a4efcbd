pub mod Requests
pub mod Listings
pub mod Responses
pub mod Pages
pub mod Sessions
pub mod MissingResponses
pub mod internal
