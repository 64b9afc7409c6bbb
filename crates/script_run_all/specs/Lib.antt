pub mod Run
pub mod Workers
pub mod Written
