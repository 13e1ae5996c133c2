pub mod Maps
pub mod Nodes
pub mod Shelves
pub mod Frozen
pub mod Examples
pub mod Revisions
