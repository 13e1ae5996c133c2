pub mod Bytes
pub mod Replies
pub mod Splitting
pub mod Cuts
pub mod Openings
pub mod Answered
pub mod Words
pub mod Lineless
