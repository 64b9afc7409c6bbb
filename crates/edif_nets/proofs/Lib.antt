pub mod JoinKeys
pub mod JoinLemmas
pub mod NetListing
pub mod Numbers
pub mod SlotLemmas
