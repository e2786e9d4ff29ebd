pub mod Tallies
pub mod Meanings
