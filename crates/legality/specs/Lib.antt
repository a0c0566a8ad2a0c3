pub mod Chances
pub mod Standing
pub mod Within
