-- what the contracts rest on
pub mod Parts
pub mod Sliding
pub mod Sessions
pub mod Laws
-- the proofs of the operators' laws
pub mod PartLaws
pub mod SlidingLaws
pub mod SessionLaws
-- inside the crate
pub mod Groups
