-- what the contracts rest on
pub mod Faults
pub mod KnownFiles
pub mod Segment
pub mod ReadCause
pub mod Written
pub mod FailingCalls
pub mod MemFiles
pub mod MemSink
