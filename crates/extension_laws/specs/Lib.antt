-- what the contracts rest on
pub mod Parts
