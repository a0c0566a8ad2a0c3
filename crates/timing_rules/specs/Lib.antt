pub mod Blocks
pub mod Gate
pub mod Kept
pub mod Reach
pub mod Scope
pub mod Spaced
