pub mod Files
pub mod Sides
