pub mod BlocksBelow
pub mod Places
pub mod Marking
pub mod Meeting
pub mod Left
pub mod Walking
pub mod Planned
pub mod UniquifyDone
