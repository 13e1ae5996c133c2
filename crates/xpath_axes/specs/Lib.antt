pub mod Allowed
pub mod Nodes
pub mod Taken
pub mod Walks
pub mod Strings
pub mod Order
pub mod Ordered
