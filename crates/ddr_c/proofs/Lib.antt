pub mod AsBox
pub mod Calls
pub mod Sitting
