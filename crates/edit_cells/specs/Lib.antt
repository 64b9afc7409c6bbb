pub mod Parts
pub mod State
pub mod Change
pub mod Patch
pub mod Marks
