pub mod GroupExamples
pub mod StoreExamples
pub mod NodeExamples
pub mod WorldExamples
pub mod ForeseenExamples
