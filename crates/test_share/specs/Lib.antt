pub mod Callers
pub mod Trios
