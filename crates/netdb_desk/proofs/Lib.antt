pub mod Lines
pub mod Rows
pub mod Seating
pub mod Turning
