pub mod AnswerLemmas
pub mod RefusalLemmas
pub mod TextLemmas
pub mod WrittenLemmas
