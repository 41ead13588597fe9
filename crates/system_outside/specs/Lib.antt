-- inside the crate
pub mod SystemTime
