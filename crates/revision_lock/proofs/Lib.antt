pub mod Lists
pub mod Parts
pub mod Rules
pub mod Steps
pub mod Passing
pub mod Crossing
pub mod Selection
