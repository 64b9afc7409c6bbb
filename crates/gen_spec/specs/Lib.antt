pub mod Calls
pub mod Generated
pub mod Summary
