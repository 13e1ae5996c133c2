pub mod Sums
pub mod Clusters
pub mod Cuts
pub mod Spans
pub mod Parts
pub mod Lines
pub mod Laws
pub mod Examples
