pub mod Counting
pub mod BankLemmas
pub mod RowLemmas
pub mod Below
pub mod TrialLemmas
