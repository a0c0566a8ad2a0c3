pub mod Later
pub mod Chancing
pub mod Spans
pub mod Legality
pub mod Issuing
pub mod Debts
