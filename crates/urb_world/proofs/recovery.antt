-- No state is a dead end: from every world of a run, some plan of events delivers everything. Nodes
-- come back, tick, and store what arrives. A node that is alone is never stranded. Other folders
-- use `can-deliver` (FullDelivery), `all-carried` (CarriedPackets), `arrives-settles`
-- (CountedArrivals), and `stays-free` (UnstrandedGroups). This folder uses the folders steps,
-- ticks, safety and hearing.
pub mod EventPlans
pub mod CountedArrivals
pub mod ContinuedWorlds
pub mod CarriedPackets
pub mod TickPackets
pub mod NodeLists
pub mod PendingNames
pub mod ReturningNodes
pub mod OneRound
pub mod CertifiedNames
pub mod FullDelivery
pub mod UnstrandedGroups
pub mod StrandedGroups
