-- what the contracts rest on
pub mod Calls
pub mod Conjunctions
pub mod Readings
-- inside the crate
pub mod Levels
pub mod Parts
