-- what the contracts rest on
pub mod Extension
pub mod Refusals
pub mod Laws
