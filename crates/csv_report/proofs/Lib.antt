mod PlainLemmas
mod RowLemmas
pub mod TextLemmas
