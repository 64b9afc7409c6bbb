pub mod Calls
pub mod Says
pub mod Seats
