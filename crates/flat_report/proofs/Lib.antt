mod LineLemmas
pub mod TextLemmas
