pub mod Cells
pub mod Files
pub mod Headings
pub mod Levels
pub mod Libraries
pub mod Notes
pub mod Reached
