mod BackLemmas
mod CountLemmas
mod DownLemmas
mod FoundLemmas
pub mod KeptLemmas
mod LeadLemmas
mod LeftLemmas
mod LevelLemmas
mod MoveLemmas
mod OrderLemmas
mod PassLemmas
mod RoomLemmas
mod StandLemmas
mod StartLemmas
