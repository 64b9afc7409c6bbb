pub mod CrossingLemmas
pub mod NoteReads
pub mod OpLemmas
pub mod SoundLemmas
