pub mod Filling
pub mod Lines
pub mod Moved
pub mod Ranges
pub mod Taking
