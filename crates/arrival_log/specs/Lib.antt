-- what the contracts rest on
pub mod Log
pub mod Kept
pub mod Laws
