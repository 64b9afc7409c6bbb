pub mod Appending
pub mod BufferedLemmas
pub mod Distinct
pub mod FileNames
pub mod LeadsLemmas
pub mod Takings
pub mod VisitLemmas
