pub mod BoundaryLemmas
pub mod ClusterLemmas
pub mod ColumnLemmas
pub mod Rulesets
pub mod StopLemmas
