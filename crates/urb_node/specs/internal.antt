pub mod ReadyViews
pub mod LayerAdditions
pub mod Outcomes
pub mod HeldLayers
pub mod OutcomeSteps
pub mod ImageVerdicts
