-- what the contracts rest on
pub mod Panes
pub mod Windows
pub mod Grid
pub mod Snapshot
pub mod Laws
-- the proofs of the operators' laws
pub mod WindowLaws
pub mod GridLaws
pub mod SnapshotLaws
-- inside the crate
pub mod State
