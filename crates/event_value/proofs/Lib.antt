pub mod DerivedOrderLemmas
pub mod OrderLemmas
