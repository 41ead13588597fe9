-- what the contracts rest on
pub mod Laws
pub mod Order
