-- what the contracts rest on
pub mod Items
pub mod Plans
pub mod Refusals
pub mod Selects
pub mod Unions
