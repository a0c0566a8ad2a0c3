pub mod Parts
pub mod Told
pub mod Grown
pub mod Within
