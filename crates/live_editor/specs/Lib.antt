pub mod Said
pub mod Answers
pub mod Shown
pub mod Held
