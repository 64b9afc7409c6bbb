pub mod Climb
pub mod Counts
pub mod Ways
