pub mod WrittenLemmas
pub mod PartLemmas
