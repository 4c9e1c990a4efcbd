pub mod CallExamples
pub mod ScriptExamples
