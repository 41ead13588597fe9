-- what the contracts rest on
pub mod Conditions
pub mod Drafts
pub mod Joins
pub mod Known
pub mod Names
pub mod ScriptNames
pub mod Sources
pub mod Stamps
