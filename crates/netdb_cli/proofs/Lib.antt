pub mod OutcomeLemmas
mod VerdictLemmas
pub mod VisitLemmas
pub mod WordLemmas
