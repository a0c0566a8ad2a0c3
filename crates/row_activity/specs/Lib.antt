pub mod Counted
pub mod Standing
pub mod Trial
