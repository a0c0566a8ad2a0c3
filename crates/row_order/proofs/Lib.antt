pub mod EntryLemmas
mod RunLemmas
mod BlockLemmas
mod StoreLemmas
mod MarkLemmas
mod BucketLemmas
mod StandingLemmas
