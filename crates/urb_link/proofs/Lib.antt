-- Loops that wait for a stop, the channels of workers, and a round of ticks. All else here is proved
-- without lemmas.
pub mod QueuesInOrder
