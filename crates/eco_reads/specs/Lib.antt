pub mod Done
pub mod Outcome
pub mod Plan
pub mod Walk
pub mod Named
pub mod Places
