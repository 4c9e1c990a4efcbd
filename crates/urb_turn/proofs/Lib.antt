-- A worker does the jobs of its node in turns: an event of the House, the store's part, and another
-- event. Proved here: after each turn the store matches its node, a stop leaves what it may leave,
-- and what is reported is true.
-- WaitingNodes comes first: it says what other workers may do to a node meanwhile, which is to
-- crash it. LastingStores says what each answer of a store leaves of a node and its store.
-- FollowingTails says that the records ahead may still follow those of the node.
-- StoreKeeping puts them together in the main lemmas `turn-keeps` and `turn-leaves`. TurnSteps
-- makes one turn of its parts (`whole`), and OtherNodes says that other nodes only rest
-- (`others-rest`). LastLoans makes a fact of it: a worker knows when it gave the House back last,
-- and its node has rested since then (`turn_since`).
-- Then read what a turn reports. Reported changes have happened (`reported-so`,
-- ReportedChanges), and events are counted (`ends_count`, EventCounts). LentFeeds is about the
-- feeds of a House, and HeldTails about records that a store is asked to hold ahead. KilledBatches
-- says what a kill leaves at any moment, also amid that call (`killed-leaves`, `all-or-none`). The
-- folder `steps` of `urb_world` says what an event does, and the folders `stops` of `urb_world` and
-- `urb_group` say what a stop does.
mod Common
pub mod EventCounts
pub mod EventNodes
pub mod GrowingPasts
pub mod TurnLoans
pub mod SeenEvents
pub mod LastingStores
pub mod WaitingNodes
pub mod FollowingTails
pub mod StoreKeeping
pub mod TurnSteps
pub mod OtherNodes
pub mod LastLoans
pub mod HeldTails
pub mod KilledBatches
pub mod ReportedChanges
pub mod LentFeeds
pub mod NewTails
pub mod NewSubmits
