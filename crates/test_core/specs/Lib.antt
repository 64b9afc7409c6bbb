pub mod Keeps
pub mod Pins
