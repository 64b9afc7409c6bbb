pub mod Example
pub mod Fields
pub mod PinTable
