pub mod Stops
pub mod Advance
