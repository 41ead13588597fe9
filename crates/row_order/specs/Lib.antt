-- what the contracts rest on
pub mod Stretches
pub mod InOrder
pub mod Merge
pub mod Laws
