pub mod CalendarLemmas
pub mod DateLemmas
pub mod DigitLemmas
pub mod FormLemmas
pub mod RoundTripLemmas
pub mod ReadLemmas
