pub mod ForesightExamples
pub mod ReachedWorlds
