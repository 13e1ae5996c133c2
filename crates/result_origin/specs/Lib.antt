pub mod Parts
pub mod Items
pub mod Stored
pub mod Assembled
pub mod Pages
