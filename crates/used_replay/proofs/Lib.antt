pub mod Lasting
pub mod Partway
