pub mod Numbers
pub mod Numerals
pub mod Values
pub mod Comparisons
pub mod Texts
pub mod Calls
pub mod Sides
pub mod Extremes
