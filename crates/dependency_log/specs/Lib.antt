pub mod Edges
pub mod History
pub mod Logged
