pub mod Ended
pub mod Lines
pub mod Split
pub mod Parts
