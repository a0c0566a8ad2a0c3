pub mod Climbing
pub mod Rounds
