-- what the contracts rest on
pub mod Rows
pub mod Laws
pub mod Operators
pub mod Schedule
pub mod Timewise
-- the proofs of the operators' laws
pub mod TimewiseLaws
pub mod OperatorLaws
