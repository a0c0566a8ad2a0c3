mod BytePairs
mod Cuts
mod Decoded
mod DigitPairs
mod EachByte
mod FirstSpace
mod HexBytes
pub mod LineParts
pub mod LinesInFront
pub mod LowerHex
mod Names
pub mod Numerals
pub mod Parts
pub mod ReportLaws
pub mod ReportReading
pub mod Steps
pub mod TraceLaws
mod WordLaws
mod Values
mod OpeningLines
pub mod CleanParts
pub mod Reopened
pub mod Separators
mod CheckNumbers
mod Parted
pub mod Prefixes
pub mod Outcomes
mod OpenedHeaders
pub mod Places
