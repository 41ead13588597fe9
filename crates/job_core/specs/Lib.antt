-- what the contracts rest on
pub mod Heard
pub mod Batches
pub mod Fresh
pub mod Lane
pub mod Lanes
pub mod Core
pub mod Apart
pub mod Schedule
-- inside the crate
pub mod Gathered
