mod Closing
mod Counting
pub mod Agreeing
mod Finishing
mod Issuing
mod Answering
mod Delivering
mod Noting
pub mod TraceParts
mod Fronts
mod LoopAnswers
mod LoopServed
mod LoopEnd
mod LoopOpened
mod LoopTrace
mod Passed
mod Taken
pub mod Under
