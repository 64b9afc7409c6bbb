pub mod ReaderLemmas
pub mod TextLemmas
