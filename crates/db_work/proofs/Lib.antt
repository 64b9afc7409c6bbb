pub mod Becoming
pub mod Outsides
