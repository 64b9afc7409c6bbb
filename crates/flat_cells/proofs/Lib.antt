mod BelowLemmas
pub mod ListedLemmas
mod MarkLemmas
