pub mod CsvItemsLemmas
pub mod CsvLemmas
pub mod FieldLemmas
pub mod JsonLemmas
pub mod LinesLemmas
pub mod Utf8Lemmas
pub mod ValuesLemmas
