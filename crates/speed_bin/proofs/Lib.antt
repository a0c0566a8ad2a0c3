pub mod Splits
pub mod Tests
pub mod Effects
pub mod Rows
pub mod Stamps
pub mod Checks
pub mod Sums
pub mod WeightLemmas
pub mod Weighing
pub mod Heights
pub mod Cycles
pub mod Bounds
pub mod Audits
pub mod Changes
pub mod Wording
pub mod CounterWording
pub mod Examples
pub mod FiveActivations
pub mod ClosestScope
pub mod RollingCount
pub mod OneRow
pub mod TwoRows
pub mod AlertFromAnotherBank
pub mod SpareIsNeeded
mod TwoPerCycle
mod Cycled
pub mod Present
mod Greatest
mod Ranges
mod Accepted
mod Stated
mod StatedAccepted
