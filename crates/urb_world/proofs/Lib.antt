-- Every world of a run keeps the rules, so it is safe: FIFO order, no creation, no duplication, one
-- message per name, and each delivered message in the storages of a majority. Rounds of events
-- deliver everything that is stored.
-- Each folder has a file with a head of its own, which names its main lemmas. Read `steps` first,
-- and then `safety`. The folders `ticks`, `hearing`, `recovery` and `rounds` are about progress:
-- what is stored can be delivered, and is after two fair rounds. The folder `stops` is about what a
-- stop of the process leaves, and how a group goes on from it.
-- The main lemmas are `reached-keeps` (Runs), `safe` (SafeWorlds), `two-busy-rounds` (FairRounds),
-- `can-deliver` (FullDelivery) and `survives` (StoppedWorlds).
-- The proofs use lemmas of urb_names (names and pairs), urb_stable (records, logs and images that
-- fit together) and urb_node (the cases of a submit, answers, and what a restart says).
mod Common
pub mod steps
pub mod ticks
pub mod safety
mod hearing
pub mod recovery
pub mod rounds
pub mod stops
