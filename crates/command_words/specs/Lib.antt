pub mod Command
pub mod Kinds
pub mod Geometry
pub mod Place
pub mod Words
pub mod Decode
