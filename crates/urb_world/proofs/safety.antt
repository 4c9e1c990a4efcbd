-- What follows from the rules: a world that meets them is safe, and any two nodes' logs agree. A
-- refused event changes nothing, and answers to answers end. A submit is accepted only if its
-- message is stored. Other folders use `safe` and `one_message` (SafeWorlds), `refused-stays`
-- (Refusals), and `agree-now` (AgreeingLogs). This folder uses the folder steps.
pub mod SafeWorlds
pub mod AgreeingLogs
pub mod RunsOfKeptWorlds
pub mod Refusals
pub mod StoredRecords
pub mod AnswerChains
pub mod AcceptedSubmits
