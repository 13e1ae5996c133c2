pub mod Print
pub mod Outside
