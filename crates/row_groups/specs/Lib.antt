-- what the contracts rest on
pub mod Distinct
pub mod Groups
pub mod Keys
pub mod Aggregates
pub mod Laws
-- inside the crate
pub mod Tallies
pub mod Columns
