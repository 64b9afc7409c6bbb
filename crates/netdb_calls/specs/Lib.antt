pub mod Answers
pub mod Descriptors
pub mod Fields
pub mod Opening
pub mod Texts
