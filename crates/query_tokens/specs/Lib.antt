-- what the contracts rest on
pub mod Bytes
pub mod Steps
pub mod Tokens
pub mod Symbols
pub mod Lexemes
