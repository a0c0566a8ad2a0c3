pub mod Pieces
pub mod Searching
pub mod Advancing
pub mod Parts
pub mod Rounds
pub mod Filling
pub mod Rounding
pub mod Ending
pub mod Opened
pub mod Order
pub mod Alternating
pub mod Fair
pub mod Clean
pub mod Capped
pub mod Traced
pub mod Served
mod WorkedMerges
