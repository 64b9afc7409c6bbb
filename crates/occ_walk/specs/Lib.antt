pub mod At
pub mod Below
pub mod Left
pub mod Stands
pub mod Starts
pub mod Walk
