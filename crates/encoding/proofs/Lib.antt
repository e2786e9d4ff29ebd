pub mod Accepted
pub mod Decodes
pub mod Encodes
pub mod Exact
pub mod Made
pub mod Ran
pub mod Whole
