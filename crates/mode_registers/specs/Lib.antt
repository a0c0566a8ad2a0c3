pub mod Held
pub mod Outcome
