-- what the contracts rest on
pub mod Batches
pub mod Cores
-- proofs that ghost lines cite
pub mod BatchLaws
pub mod CoreLaws
