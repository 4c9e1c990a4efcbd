-- How a run of a group over its journals ends, and what its stores are then.
-- StoresComeBack says that all stores are returned in their order. Each was asked for its records
-- at most once, and then served its own node. RunsAfterStop says how a run ends, also over stores
-- that a stop had left. If the group opened over intact stores, it goes on from the world before
-- the stop. If it didn't open, the stores still hold what the stop had left. Either file may be
-- read first. ResumedRuns joins them for journals in the files that a stop had left (`resumes`).
-- StoresInside says what a stop leaves of a journal inside a store with records ahead
-- (`inside-leaves`), and FilesInside what its files then hold (`inside_files`). FilesAtKills says
-- that of a kill at any moment (`killed_files`), and of one amid a batch (`batch_files`).
-- AheadRuns and WrappedJournals say the same of stores that are wrapped, so that they may hold
-- records ahead of their nodes (`ran_ahead`, `resumes_ahead`).
-- Lives says that nothing is lost over any number of starts (`lives-shown`, `lives-stored`).
-- The main lemmas are `come_back` (StoresComeBack), and `served-after-stop` and
-- `refused-after-stop` (RunsAfterStop). They rest on what urb_group's specification says of
-- openings after a stop, and on urb_worker's lemmas about stores that served a group.
mod AheadRuns
mod Lives
mod RunsAfterStop
mod ResumedRuns
mod StoresInside
mod FilesInside
mod FilesAtKills
mod StoresComeBack
mod WrappedJournals
