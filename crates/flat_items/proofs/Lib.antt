-- In a valid design one way at most leads along identifiers. So the notes that are kept for some steps are those that name them.
mod AddLemmas
pub mod EnterLemmas
pub mod FrameLemmas
pub mod GroundLemmas
pub mod LentLemmas
mod NamedLemmas
pub mod NetLemmas
mod NoteLemmas
pub mod PinLemmas
pub mod PortLemmas
pub mod StageLemmas
pub mod TextLemmas
mod WayLemmas
