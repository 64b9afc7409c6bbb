pub mod Along
pub mod Below
pub mod ForBlocks
pub mod Kids
pub mod Plans
