pub mod Work
pub mod Becomes
