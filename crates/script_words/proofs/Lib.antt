pub mod Answering
pub mod AtomLemmas
