pub mod StopLemmas
pub mod CallLemmas
