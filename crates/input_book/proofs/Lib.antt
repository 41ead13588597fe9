pub mod CheckLemmas
pub mod ReferenceLemmas
pub mod DocumentLemmas
pub mod EntryLemmas
pub mod ItemLemmas
pub mod RangeLemmas
pub mod ReadingLemmas
pub mod WellFormedLemmas
