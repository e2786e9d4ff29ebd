pub mod Order
pub mod Rows
pub mod Answers
pub mod Spots
pub mod Orders
