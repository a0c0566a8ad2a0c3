pub mod Grammar
pub mod Headline
pub mod Lines
pub mod Report
pub mod Runs
pub mod Shown
pub mod Sound
pub mod Whole
