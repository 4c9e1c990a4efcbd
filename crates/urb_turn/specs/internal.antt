pub mod Stages
pub mod LoanEnds
pub mod CountedHouses
pub mod Arrivals
pub mod TurnExamples
