pub mod Changes
pub mod Index
pub mod Moves
pub mod Rows
