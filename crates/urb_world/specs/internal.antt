pub mod Examples
pub mod Scripts
pub mod RecoveryExamples
pub mod RoundExamples
