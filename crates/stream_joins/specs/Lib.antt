-- what the contracts rest on
pub mod Joined
pub mod Bound
pub mod Snapshots
pub mod Reference
pub mod Specs
pub mod JoinCond
pub mod Laws
-- the proofs of the operators' laws
pub mod BoundLaws
pub mod ReferenceLaws
