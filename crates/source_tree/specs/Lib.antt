pub mod Begun
pub mod Kept
pub mod Seen
pub mod Printing
pub mod Unnumbered
pub mod Lines
