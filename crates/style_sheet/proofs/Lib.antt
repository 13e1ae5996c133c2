pub mod Behind
pub mod Grown
pub mod Ordered
pub mod Known
pub mod Running
pub mod Told
pub mod Saying
pub mod Lineless
