pub mod Patterns
pub mod PatternMachine
pub mod Reading
pub mod Depth
