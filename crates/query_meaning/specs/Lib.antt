-- what the contracts rest on
pub mod Streams
pub mod Ready
pub mod Steps
pub mod Meaning
pub mod Lists
pub mod Laws
pub mod StepOp
pub mod Pipeline
-- the proofs of the steps' laws
pub mod StepLaws
