pub mod ChangeLemmas
pub mod LineBytes
mod TameWording
pub mod WordKinds
pub mod Wording
pub mod ZeroWords
