mod GivenLemmas
pub mod OutcomeLemmas
mod RowLemmas
