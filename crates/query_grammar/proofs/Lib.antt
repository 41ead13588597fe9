pub mod Sets
pub mod ExpressionLines
pub mod StatementLines
pub mod QueryLaws
pub mod InnerReaders
pub mod Takes
