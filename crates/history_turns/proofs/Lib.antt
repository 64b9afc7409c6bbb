pub mod Again
pub mod Blocking
pub mod Calling
pub mod Quieting
pub mod Turning
