pub mod Spelling
pub mod OwnWords
