pub mod Ending
pub mod Formats
pub mod Lines
pub mod Names
pub mod Said
pub mod Writes
