pub mod Checks
pub mod Forms
pub mod Kept
pub mod Rules
