pub mod EndLemmas
pub mod PaneLemmas
pub mod ContentLemmas
pub mod StateLemmas
pub mod RowLemmas
