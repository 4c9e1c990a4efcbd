-- What a stop of the process may leave of the nodes' storages, and how a group goes on from it:
-- with records ahead of their events (AheadWorlds), or under other limits (LimitChanges). The laws
-- use `survives` and `goes-on-under` (StoppedWorlds), `survives-ahead` (AheadWorlds) and
-- `fits-under` (LimitChanges). StockedNodes says what an event does to what a node's storage may
-- hold. This folder uses the folders steps, safety and recovery.
pub mod StoppedWorlds
pub mod LimitChanges
pub mod AheadWorlds
pub mod StockedNodes
