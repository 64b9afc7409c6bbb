pub mod Follow
pub mod Verdicts
