pub mod Walks
pub mod Chained
pub mod Lent
pub mod Taking
