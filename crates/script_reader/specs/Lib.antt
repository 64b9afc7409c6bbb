pub mod Line
pub mod Parts
pub mod Steps
