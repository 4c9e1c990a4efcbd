-- What a stop may leave in the stores, and how a cluster goes on when it is opened over them.
-- Whatever a command does, a cluster that is stocked (or secured) stays so. Other folders use
-- `applies-stocked` (StockedClusters), `applies-secured` (SecuredClusters) and `opens-leaves`
-- (OpenedClusters). This folder uses the folders shown, moves and calls, and the folders steps,
-- ticks, recovery and stops of urb_world.
pub mod StockedSteps
pub mod NodeStoreInvariant
pub mod StockedClusters
pub mod AheadStores
pub mod AheadGroups
pub mod StockedPlays
pub mod StoredWorlds
pub mod StockedFailures
pub mod StoppedCalls
pub mod SecuredClusters
pub mod SecuredOpenings
pub mod OpenedClusters
pub mod AskedStores
pub mod DraftPositions
mod RecordCounts
