-- what the contracts rest on
pub mod Aggregates
pub mod Groups
pub mod Windows
-- inside the crate
pub mod Arguments
pub mod Lengths
