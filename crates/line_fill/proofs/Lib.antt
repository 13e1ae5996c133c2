pub mod Longest
pub mod Places
pub mod Parting
pub mod Filled
pub mod LineLaws
pub mod Shown
