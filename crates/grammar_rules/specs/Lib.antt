-- what the contracts rest on
pub mod Lexemes
pub mod Rules
pub mod Readers
pub mod Laws
