pub mod Auditing
pub mod Findings
pub mod Groups
pub mod AuditSoFar
