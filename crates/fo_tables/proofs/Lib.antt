pub mod Shares
pub mod Free
pub mod Taken
pub mod Grids
pub mod Stacked
pub mod Buckets
