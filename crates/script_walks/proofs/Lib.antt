pub mod TopLemmas
pub mod WalkLemmas
