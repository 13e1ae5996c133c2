pub mod Clusters
pub mod Columns
pub mod Boundaries
pub mod Stops
