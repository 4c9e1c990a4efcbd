-- What the calls of a cluster do to held drafts, to the places for drafts, and to the stores. A
-- list of commands that are applied one after the other is a run of events, and a round if its
-- events are one (CommandRounds). Other folders use `steps-node` and `reacts-tied` (DraftsInCalls),
-- `held-as` (StoreAnswers), and `lost-tied` (StoreCallEffects). This folder uses the folder shown,
-- and the folders steps, safety and rounds of urb_world.
pub mod HeldDrafts
pub mod DraftsInCalls
pub mod StoreAnswers
pub mod StoreCallEffects
pub mod PlayedRuns
pub mod ArmedStores
pub mod BlankStores
pub mod CommandRounds
