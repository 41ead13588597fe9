-- what the contracts rest on
pub mod Answers
pub mod Asking
pub mod Documents
pub mod Failures
pub mod RefusalLines
pub mod StatusLines
pub mod Statuses
pub mod Texts
pub mod Words
-- inside the crate
pub mod TextStatus
pub mod WordsView
