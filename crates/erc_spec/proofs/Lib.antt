pub mod ItemLemmas
mod ManyLemmas
pub mod MemberLemmas
pub mod NoDriver
pub mod OpenLemmas
pub mod PinOrder
pub mod ToldLemmas
