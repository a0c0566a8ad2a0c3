pub mod Rules
pub mod StoreLemmas
pub mod ToldLemmas
pub mod StepLemmas
pub mod ScriptLemmas
pub mod NearWords
pub mod TameLines
