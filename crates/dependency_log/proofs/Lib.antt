pub mod EdgeLemmas
pub mod LawLemmas
pub mod Numbers
pub mod SlotLemmas
pub mod Stands
pub mod StepLemmas
