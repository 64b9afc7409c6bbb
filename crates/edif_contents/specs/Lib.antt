pub mod Ends
pub mod Inners
pub mod Insides
pub mod Known
pub mod NamesOf
pub mod Nets
