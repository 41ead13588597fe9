pub mod EntryLemmas
pub mod SettledLemmas
