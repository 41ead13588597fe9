-- what the contracts rest on
pub mod Faults
pub mod Forms
pub mod Kinds
pub mod Senses
