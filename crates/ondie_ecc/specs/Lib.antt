pub mod Bits
pub mod Codeword
pub mod Repaired
