pub mod Tokens
pub mod Symbols
pub mod Named
pub mod Faults
pub mod Spelling
