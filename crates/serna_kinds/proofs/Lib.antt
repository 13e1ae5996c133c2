pub mod ListLemmas
pub mod NameLemmas
pub mod SpaceLemmas
pub mod TapeLemmas
pub mod TextLemmas
