pub mod Climbs
pub mod Growth
pub mod Insertion
pub mod KidLemmas
pub mod LinkLemmas
pub mod NodeReads
pub mod PathLemmas
pub mod WayLemmas
