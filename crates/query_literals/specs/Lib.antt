-- what the contracts rest on
pub mod Bare
pub mod Bounds
pub mod Differences
pub mod Literals
