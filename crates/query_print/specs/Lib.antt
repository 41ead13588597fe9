-- what the contracts rest on
pub mod Words
pub mod Expressions
pub mod Scripts
pub mod Unplaced
-- inside the crate
pub mod Writing
