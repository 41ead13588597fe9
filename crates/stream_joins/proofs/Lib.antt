pub mod PartLemmas
pub mod FoundLemmas
pub mod LateLemmas
pub mod LawLemmas
