pub mod Front
pub mod Pieces
pub mod Values
pub mod Verbs
