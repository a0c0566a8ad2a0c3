pub mod Answers
pub mod Effects
pub mod Handle
pub mod Standing
