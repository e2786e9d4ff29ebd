pub mod Images
pub mod Rooms
pub mod Stores
pub mod Taking
