-- what the contracts rest on
pub mod Entry
pub mod Substreams
pub mod Verdicts
pub mod SubstreamMarks
pub mod PolicyState
pub mod Laws
-- inside the crate
pub mod Steps
