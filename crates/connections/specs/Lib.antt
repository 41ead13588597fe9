-- what the contracts rest on
pub mod ConnBytes
pub mod Connections
pub mod MemConn
pub mod MemLink
