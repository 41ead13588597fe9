-- what the contracts rest on
pub mod Stops
pub mod Images
pub mod MemDisk
pub mod ImageLaws
