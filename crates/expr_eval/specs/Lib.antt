-- what the contracts rest on
pub mod Dates
pub mod Numbers
pub mod Operations
pub mod Patterns
pub mod Texts
pub mod Truths
pub mod Values
-- inside the crate
pub mod Rows
