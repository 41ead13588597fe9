-- what the contracts rest on
pub mod Leaves
pub mod Lists
pub mod ExpressionGrammar
pub mod StatementGrammar
pub mod Queries
-- inside the crate
pub mod Reading
