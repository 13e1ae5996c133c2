pub mod Arena
pub mod Index
pub mod Links
pub mod Lists
pub mod Pool
pub mod Rings
pub mod Side
pub mod Threads
