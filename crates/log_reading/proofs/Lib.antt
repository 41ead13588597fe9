pub mod AskingLemmas
pub mod KnownLemmas
pub mod LogLemmas
pub mod FeedingLemmas
pub mod PlaceLemmas
pub mod CoreLemmas
pub mod BatchLemmas
pub mod ReferenceLemmas
