pub mod Buses
pub mod Clearing
pub mod Held
pub mod Service
pub mod Sides
pub mod Standing
pub mod Trial
