pub mod Answers
pub mod Facts
pub mod Items
pub mod Lists
pub mod Named
