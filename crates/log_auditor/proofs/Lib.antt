pub mod Auditions
pub mod Endings
pub mod Judging
pub mod Lines
pub mod Readings
pub mod Taking
