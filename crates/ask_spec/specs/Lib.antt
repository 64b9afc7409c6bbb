pub mod Examples
pub mod Nets
pub mod Places
pub mod Roles
pub mod Told
