mod CellLemmas
pub mod TellingLemmas
