pub mod Counts
pub mod Allowing
pub mod Owing
pub mod Steps
