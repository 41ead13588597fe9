-- what the contracts rest on
pub mod CsvItems
pub mod Items
pub mod JsonItems
pub mod Lines
pub mod Segments
-- inside the crate
pub mod CsvPlaces
pub mod CsvReading
pub mod LineEnds
