pub mod Endings
pub mod Lines
pub mod Out
pub mod Status
pub mod Sections
