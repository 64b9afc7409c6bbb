pub mod Crossing
pub mod Read
