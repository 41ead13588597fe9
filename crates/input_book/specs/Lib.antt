-- what the contracts rest on
pub mod Limits
pub mod Refusals
pub mod Document
pub mod Readers
pub mod Ranges
pub mod Tables
pub mod Checks
pub mod Inputs
pub mod Laws
-- inside the crate
pub mod Key
