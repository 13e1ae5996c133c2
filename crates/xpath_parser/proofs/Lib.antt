pub mod Completeness
pub mod Endings
pub mod Outcomes
pub mod Soundness
pub mod States
pub mod Steps
