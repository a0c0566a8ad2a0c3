pub mod Oldest
pub mod Queue
pub mod Windows
pub mod Order
pub mod Owed
pub mod Counts
pub mod Paging
pub mod CommandKinds
pub mod Turns
pub mod Serving
pub mod Served
pub mod Kept
pub mod Unserved
mod PageWording
mod OpenBanks
mod Examples
