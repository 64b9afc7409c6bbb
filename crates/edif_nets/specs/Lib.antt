pub mod Joins
pub mod Keys
pub mod NetLists
pub mod Slots
