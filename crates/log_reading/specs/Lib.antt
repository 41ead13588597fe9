-- what the contracts rest on
pub mod Asking
pub mod Log
pub mod References
pub mod Batch
-- inside the crate
pub mod Ended
pub mod Places
pub mod Feeding
pub mod Core
