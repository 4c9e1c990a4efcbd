pub mod TurnWords
