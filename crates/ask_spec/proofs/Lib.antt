pub mod AnswerLemmas
pub mod ClassLemmas
pub mod DriverLemmas
pub mod ItemLemmas
pub mod PlaceLemmas
pub mod SideLemmas
