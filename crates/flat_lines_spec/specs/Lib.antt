pub mod Example
pub mod Lines
