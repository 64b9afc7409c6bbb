pub mod Keeping
pub mod PinLemmas
