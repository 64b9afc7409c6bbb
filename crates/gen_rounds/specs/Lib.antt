pub mod Counting
pub mod Stand
