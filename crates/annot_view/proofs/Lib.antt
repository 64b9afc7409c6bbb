pub mod LastLemmas
pub mod MergeLemmas
pub mod NameLemmas
