mod Copied
mod Ended
mod Newer
pub mod MadeJob
pub mod MadeRun
pub mod MadeWords
pub mod NumberWords
pub mod OneWord
pub mod BehindLemmas
pub mod ShowLemmas
mod UpgradeLemmas
mod UpgradedAs
