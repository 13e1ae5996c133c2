pub mod ShelfLemmas
pub mod PlaceLemmas
pub mod MapLemmas
pub mod LawLemmas
