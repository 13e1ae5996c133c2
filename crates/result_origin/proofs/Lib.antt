pub mod EndsLemmas
pub mod StoredLemmas
pub mod ItemLemmas
pub mod PartLemmas
pub mod FilledLemmas
