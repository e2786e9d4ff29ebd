mod Checks
mod Lines
pub mod Notes
mod Tells
