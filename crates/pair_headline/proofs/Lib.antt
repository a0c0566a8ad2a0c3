pub mod Deeds
pub mod Pairs
pub mod Shown
pub mod Accessed
pub mod Answered
pub mod Turned
pub mod Promised
pub mod Counted
