pub mod Primitives
pub mod Places
pub mod Neighbours
