pub mod Looks
pub mod Growing
pub mod Patches
pub mod Places
pub mod Puts
pub mod States
pub mod Marking
