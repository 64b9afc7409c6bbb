pub mod Holding
pub mod Coming
