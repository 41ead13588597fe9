-- what the contracts rest on
pub mod Given
pub mod MemClock
