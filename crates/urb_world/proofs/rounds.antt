-- Rounds, which may be interleaved with other events: two of them deliver what is stored. A round
-- exists from every world, and once all is certified everywhere, ticks end. The laws on fairness
-- use `two-rounds` and `two-busy-rounds` (FairRounds), `round-exists` (RoundExistence) and
-- `three-rounds` (SilentTicks). This folder uses the folders steps, ticks, safety, hearing and
-- recovery.
pub mod FairRounds
pub mod BusyRounds
pub mod JudgedRounds
pub mod RoundExistence
pub mod SilentTicks
mod ActCases
mod AnsweredPackets
mod OtherNodes
mod RoundParts
mod WholeNodes
mod SubmitCounts
mod ProceedingEvents
mod EventTicks
mod UpNodes
pub mod LastingCounts
mod SentPairs
mod RoundActs
mod ActLists
mod RoundArrivals
mod KnownNames
