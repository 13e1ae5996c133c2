pub mod Adapters
pub mod Counts
pub mod MemorySink
pub mod MemorySource
pub mod Outside
