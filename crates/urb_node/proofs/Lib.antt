-- The calls of one node do what the specification of its steps (specs/Steps.antt) says. A call
-- computes an outcome from what the node holds in memory. That outcome is the specification's for
-- every node of a world that the memory shows.
-- Read ShownNodes first: it says what a memory tells about such a node. NextRecords and
-- HoldableDrafts say which record may be stored next. Then come the outcomes of the calls
-- (SubmitOutcomes, ArrivalOutcomes, RecordOutcomes), and what a memory shows after them
-- (MemoryChanges, JoinedMemory, RestartReplies). OutcomeResults, ReceiptResults and RestartResults
-- go on to the results of the calls. The other files are about the layers of the memory, the image
-- that a restart reads, and the packets that a node sends.
-- The main lemmas are `submit-says` (SubmitOutcomes), `arrive-says` (ArrivalOutcomes) and
-- `commit-says` (RecordOutcomes). The proofs use lemmas of urb_names (names, pairs,
-- acknowledgements), urb_stable (records and logs), urb_window and urb_pending. The crates urb_world
-- and urb_group use ShownNodes, Openings, RestartReplies, ImageNames, FinalAnswers and SubmitCases.
mod Common
pub mod ShownNodes
pub mod NextRecords
pub mod MemoryChanges
pub mod JoinedMemory
pub mod Openings
pub mod OutcomeAgreement
pub mod SubmitOutcomes
pub mod ArrivalOutcomes
pub mod RecordOutcomes
pub mod OutcomeResults
pub mod SentPackets
pub mod HoldableDrafts
pub mod RestartReplies
pub mod JoinedLayers
pub mod ReceiptResults
pub mod ReadRecords
pub mod QueryAnswers
pub mod ImagePairs
pub mod ImageNames
pub mod ImageComparisons
pub mod RestartResults
pub mod NodeFailures
pub mod FinalAnswers
pub mod SubmitCases
