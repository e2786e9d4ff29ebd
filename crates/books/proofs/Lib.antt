pub mod Disowns
pub mod Notes
pub mod Ownings
pub mod Removals
pub mod Surveys
