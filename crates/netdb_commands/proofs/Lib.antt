pub mod InputLemmas
pub mod TextLemmas
pub mod VisitLemmas
pub mod WordLemmas
