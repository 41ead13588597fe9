-- what the contracts rest on
pub mod Functions
pub mod Reading
pub mod Same
