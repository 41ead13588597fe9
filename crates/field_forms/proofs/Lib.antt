pub mod AppendLemmas
pub mod ItemLemmas
pub mod NumberLemmas
pub mod PlaceLemmas
pub mod TagLemmas
pub mod WholeLemmas
