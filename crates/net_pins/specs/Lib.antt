pub mod Levels
pub mod Moves
pub mod Order
pub mod Spots
