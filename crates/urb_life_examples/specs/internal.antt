pub mod ExampleWorlds
pub mod RunExamples
