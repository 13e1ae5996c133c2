pub mod RuleOrder
pub mod Choosing
