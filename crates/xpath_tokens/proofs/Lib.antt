pub mod Comparing
pub mod Runs
pub mod Cuts
pub mod Spelled
pub mod WordLemmas
pub mod TokenLists
pub mod WordFronts
pub mod Longest
