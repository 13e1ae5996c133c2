pub mod Functions
pub mod WellFormed
pub mod Variables
