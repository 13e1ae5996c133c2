pub mod Stacks
pub mod HistoryLends
pub mod Leads
pub mod Examples
