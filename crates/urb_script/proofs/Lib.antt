-- A script is lines of commands for a cluster with stores in memory. Proved here: a run writes the
-- answers that the scenes give, and the logs that a script shows are safe and agree.
-- Begin with the words of a line: HexWords and NameWords say what a word stands for, and Spellings
-- which words are no command. Progress goes from line to line: one more line is answered
-- (`one_more`), or the script ends (`closes_at`, `bad_command`).
-- Then read the files on scenes. After each event the stores hold what the scene says (SceneSteps).
-- So an applied command has the answer of the scene, and the next scene is shown (`applies_from`).
-- The laws of all scripts come last: one outcome if no store is refused memory (`one_outcome`), and
-- what logs show (`logs_are_safe`, `logs_agree`). They use that each line keeps the rules of a
-- scene (`takes_kept`), and the safety of worlds, which `urb_world` proves.
mod Common
pub mod ClusterAnswers
pub mod HexWords
pub mod LogLaws
pub mod NameWords
pub mod NumberWords
pub mod Outcomes
pub mod LinesAndWords
pub mod Progress
pub mod ReopenedClusters
pub mod SceneRules
pub mod SceneSteps
pub mod ClusterScenes
pub mod ListTexts
pub mod Spellings
pub mod LogTexts
