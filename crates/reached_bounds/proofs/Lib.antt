pub mod Headers
pub mod TwoPerCycle
pub mod ThreePerCycle
pub mod FourPerCycle
pub mod FivePerCycle
