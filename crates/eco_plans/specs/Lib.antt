pub mod Add
pub mod Notes
pub mod Props
pub mod Shown
