pub mod LaneLemmas
pub mod StreamLemmas
pub mod FreshLemmas
pub mod ApartLemmas
pub mod BatchLemmas
pub mod CoreLemmas
pub mod ScheduleLemmas
