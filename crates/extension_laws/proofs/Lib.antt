pub mod FrontLemmas
pub mod WellFormedLemmas
