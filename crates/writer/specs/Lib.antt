pub mod Items
pub mod Pages
