-- What a node has heard of other nodes' certificates is true, in every world of a run. A node that
-- is up counts itself, and hears only of names that are pending at it. A node is called live if
-- this holds for it. Other folders use `step-live` and `reached-live` (LiveWorlds), and
-- `reached-tells` (HeardNames). This folder uses the folder steps.
pub mod CountedNodes
pub mod LiveNodes
pub mod LiveWorlds
pub mod HeardNames
