pub mod Firsts
pub mod Front
pub mod Tally
