pub mod Made
pub mod Replayed
pub mod TraceText
pub mod Words
pub mod Writing
