-- A worker serves its node, job after job, until its channel is closed. ServedStores puts a
-- worker's jobs one after the other, and the stores in their order. EndedRuns says what a run
-- leaves.
-- TicketBatches is about the calls of a batch, and ForeseenBatches about what is foreseen of them.
-- NodeFeeds is about the jobs of a feed, and Pulses about what a datagram says of certificates.
-- SentPackets is about the packets of a reply. The proofs of `urb_turn` say what one turn does.
pub mod SentPackets
pub mod ServedStores
pub mod TicketBatches
pub mod ForeseenBatches
pub mod EndedRuns
pub mod NodeFeeds
pub mod Pulses
