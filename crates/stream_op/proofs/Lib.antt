pub mod RowLemmas
pub mod ScheduleLemmas
pub mod UnionLemmas
