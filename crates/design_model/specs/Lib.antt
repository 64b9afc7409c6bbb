pub mod Firsts
pub mod Labels
pub mod Items
pub mod Tables
