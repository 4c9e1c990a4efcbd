-- Each event preserves the rules for all nodes, so every world of a run meets them. There is a file
-- for each kind of event, and Runs puts them together. Other folders use `reached-keeps` and
-- `step-keeps` (Runs), `run-goes_on` (Growth), and `step-calm` (DraftsInSteps), which says what a
-- step does to the drafts that the nodes hold. This folder uses no other folder.
pub mod ConfirmedPackets
pub mod ArrivalCases
pub mod StepCases
pub mod OneNodeStep
pub mod DraftedRecords
pub mod ShortPayloads
pub mod Growth
pub mod Runs
pub mod DraftsInSteps
mod Submits
mod Arrivals
pub mod JoinedRecord
mod Commits
mod Ticks
