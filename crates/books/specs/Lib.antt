pub mod Limits
pub mod Ledger
pub mod Changes
pub mod Owners
