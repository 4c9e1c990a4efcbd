-- The journals of a group are opened and asked in parallel. Proved here: the results stand in the
-- order of the nodes, and the opened group goes on from the world before the last stop.
-- Read PlacesInOrder first: what is open grows from place to place (`one_more`), up to the first
-- fault. Then read how stores that were asked at their places become one list of answers
-- (`all_answered`) and of images (`all_give`).
-- The lemmas on the group come last. After a stop the group goes on (`goes-on-together`), a stop
-- inside the call leaves no more than one before it (`leaves-together`), and the opened group is
-- secured (`secured-together`). They use the folder `stops` of `urb_group`. StoppedFiles says that
-- journals hold what a stop left in their files (`stopped_files`). SendableFiles says what may go to
-- a thread. EmptiedLists and RecordCounts have one small lemma each.
mod Common
mod EmptiedLists
mod ContinuedGroups
mod PlacesInOrder
mod RecordCounts
pub mod SendableFiles
pub mod StoppedFiles
mod AnswerLists
