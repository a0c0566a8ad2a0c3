pub mod Entries
pub mod Marks
pub mod Blocks
pub mod Nodes
pub mod Runs
pub mod Standing
