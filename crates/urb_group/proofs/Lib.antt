-- The code's calls are steps of every world that the group shows. So what urb_world proves of
-- worlds holds for a group in memory: it stays sound, its logs agree, and a cluster that is opened
-- over what a stop left goes on.
-- Each folder has a file with a head of its own, which names its main lemmas. Read `shown` first,
-- which is about memory and worlds. Then `moves` goes from a group's calls to steps, and `calls`
-- from a cluster's calls and lists of commands. The folder `tails` is about records that may follow
-- those of a node. The folder `stops` is about what a stop of the process leaves in stores, and how
-- a cluster goes on from it.
-- The main lemmas are `sound-step` (AgreeingWorlds), `submit-moved` and its like (GroupMoves),
-- `follows-is` (FollowedRecords) and `applies-stocked` (StockedClusters).
-- The proofs use lemmas of urb_world (steps, safety, recovery and rounds), urb_names (names and
-- pairs), urb_stable (records, logs and images that fit together) and urb_node (what a node's
-- memory shows).
mod Common
pub mod shown
pub mod moves
pub mod calls
pub mod stops
mod tails
