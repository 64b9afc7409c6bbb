pub mod BitLemmas
mod IndexLemmas
mod ListLemmas
mod NestedLemmas
pub mod RowLemmas
mod TopLemmas
