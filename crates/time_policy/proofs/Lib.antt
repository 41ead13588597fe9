pub mod HistoryLemmas
pub mod WatermarkLemmas
pub mod SubstreamLemmas
pub mod MarkLemmas
pub mod StandsForLemmas
