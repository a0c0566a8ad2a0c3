pub mod Verdicts
pub mod Rolling
pub mod Auditing
