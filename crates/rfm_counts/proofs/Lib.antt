pub mod Steps
pub mod Wanting
