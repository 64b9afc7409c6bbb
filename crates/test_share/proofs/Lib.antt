pub mod Moves
pub mod Trios
