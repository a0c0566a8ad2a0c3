pub mod Promises
pub mod Running
pub mod Spare
pub mod Spared
pub mod StandIn
