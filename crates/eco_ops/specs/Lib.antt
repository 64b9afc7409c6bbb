pub mod Ends
pub mod Insts
pub mod Single
