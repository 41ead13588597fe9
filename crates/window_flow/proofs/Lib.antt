pub mod GroupLemmas
pub mod HeldLemmas
pub mod MomentLemmas
pub mod PlaceLemmas
pub mod RowLemmas
pub mod SessionLemmas
pub mod StretchLemmas
