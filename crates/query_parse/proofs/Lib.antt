pub mod StmtLemmas
