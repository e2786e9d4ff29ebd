pub mod Changes
pub mod Heads
pub mod Looks
pub mod Meets
pub mod Moves
pub mod Ranks
pub mod Rises
