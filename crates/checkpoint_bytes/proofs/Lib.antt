pub mod BatchLemmas
pub mod CoreLemmas
