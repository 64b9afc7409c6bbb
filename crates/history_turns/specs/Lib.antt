pub mod Moves
pub mod Seats
pub mod Within
