pub mod Codes
pub mod Forest
pub mod Links
pub mod Paths
pub mod Ways
