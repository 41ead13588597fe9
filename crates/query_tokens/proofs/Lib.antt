pub mod SymbolLemmas
pub mod NumberLemmas
pub mod TokensLemmas
pub mod SpanLemmas
pub mod LexemeLemmas
