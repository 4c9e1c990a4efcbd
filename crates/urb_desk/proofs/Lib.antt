-- What the desk of a node tells a client is true (`works_tells`, TrueResponses), and what one desk
-- says was accepted is what all desks read (AcceptedReads). DeskEvents says what a desk has seen
-- after a turn, and what is no turn of a request. NextSubmits follows the submits at the front of the
-- bytes of a session.
mod Common
pub mod TrueResponses
pub mod DeskEvents
pub mod AcceptedReads
pub mod NextSubmits
