pub mod Calls
pub mod Counted
pub mod Hosts
pub mod Rows
pub mod Lines
