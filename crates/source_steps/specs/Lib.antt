pub mod Said
pub mod CellChanges
pub mod Steps
pub mod Putting
pub mod Taking
pub mod Runs
pub mod Differences
