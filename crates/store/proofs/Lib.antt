pub mod Facts
pub mod Views
