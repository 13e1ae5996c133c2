pub mod Sizes
pub mod Widths
pub mod Cells
pub mod Taken
pub mod Heights
pub mod Needs
pub mod Examples
