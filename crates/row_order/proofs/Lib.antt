pub mod ListLemmas
pub mod StretchLemmas
pub mod InOrderLemmas
pub mod StableLemmas
pub mod MergeLemmas
