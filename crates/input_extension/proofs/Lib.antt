pub mod GrownLemmas
pub mod WalkLemmas
pub mod PreorderLemmas
pub mod RefusalLemmas
pub mod KeptLemmas
pub mod ExtendingLemmas
