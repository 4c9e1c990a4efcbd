-- A cluster over journals is opened again after a stop of its machine. Proved here: the journals
-- then hold what the stop may have left of their nodes, so the new cluster goes on from the world
-- that the old one showed.
-- Read JournalsReopened first. It begins with `IsReopened`, which `urb_sqlite` says of each
-- journal, and ends with what `urb_group` asks of the stores of a cluster. The main lemmas are
-- there. Each journal holds what a stop may leave of its node (`all_hold`), and it is honest as far
-- as its disk is clean (`all_genuine`, `honest-again`). Its last lemmas are about the lists
-- that a loop goes through. AppliedCommands has one lemma: a command keeps the limits of the
-- cluster (`applies-size`). The clauses of the cluster's calls, in `urb_group`, say the rest.
pub mod JournalsReopened
pub mod AppliedCommands
